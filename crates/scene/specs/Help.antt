-- What the help tells of the calls of a session.
use Rattle.std.specs.Prelude.{◌≡◌, ℕ, List, Any, Some}
use Rattle.hosting.specs.Conversing.{lines_of}
use Rattle.notation.specs.Words.{word}
use Rattle.session.specs.Names.{named}
use Rattle.session.specs.declared.call_name.CallName.{CallName}

-- A text tells of every call where, for each, one of its lines begins with the call's name.
abbrev pub TellsEveryCall : List ℕ → Type 0
TellsEveryCall text = (call : CallName) → Any (λ line. named (word line) ≡ Some call) (lines_of text)
