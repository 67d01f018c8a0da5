-- What is told by an answer that gives a pass or a due back.
use Rattle.std.specs.Prelude.{ℕ, Some, None, Ok, Err, Option, Result}
use Rattle.document.specs.declared.tokens.Pass.{Pass}
use Rattle.document.specs.declared.tokens.Refused.{Refused}
use Rattle.document.specs.declared.document.script.RecordRefusal.{RecordRefusal}

-- The refusal, if it is one.
abbrev pub given_back : {X Y E : Type 0} → Result X (Refused Y E) → Option E
given_back (Ok x) = None
given_back (Err f) = Some f.refusal

-- How many records of a script were done, or which was refused.
abbrev pub script_told : Result (ℕ × Pass) (Refused Pass RecordRefusal) → Result ℕ RecordRefusal
script_told (Ok done) = Ok done.0
script_told (Err f) = Err f.refusal
