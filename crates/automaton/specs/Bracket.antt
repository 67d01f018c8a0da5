-- Which bytes are brackets: the role of a byte read from a state.
-- Everything that pairs brackets asks for the role and for nothing else.
use Rattle.std.specs.Prelude.{◌≡◌, ℕ, cond, ◌==◌}
use Rattle.automaton.specs.Automaton.{Automaton}
use Rattle.automaton.specs.Class.{mark}
use Rattle.automaton.specs.declared.role.BracketKind.{BracketKind}
use Rattle.automaton.specs.declared.role.BracketKind.TheVariants.{Round, Square, Curly}
use Rattle.automaton.specs.declared.role.Role.{Role}
use Rattle.automaton.specs.declared.role.Role.TheVariants.{Plain, Opening, Closing}

-- ( ) [ ] { } are the brackets, of three kinds.
abbrev pub bracket : ℕ → Role BracketKind
bracket b =
    cond (b == 0x28) (Opening Round)
    (cond (b == 0x29) (Closing Round)
    (cond (b == 0x5B) (Opening Square)
    (cond (b == 0x5D) (Closing Square)
    (cond (b == 0x7B) (Opening Curly)
    (cond (b == 0x7D) (Closing Curly) Plain)))))

-- A bracket plays its role where its class is that of a mark, and no other byte has one.
abbrev pub role_of : ℕ → ℕ → Role BracketKind
role_of class b = cond (class == mark) (bracket b) Plain

-- The role of a byte read from a state.
abbrev pub role : Automaton → ℕ → ℕ → Role BracketKind
role a s b = role_of (a.class s b) b

-- A live bracket is a byte with a role.
abbrev pub Live : Automaton → ℕ → ℕ → Type 0
Live a s b = role a s b ≡ Plain → ⊥
