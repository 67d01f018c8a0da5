use Rattle.std.proofs.Common.{◌≡◌, [], ◌∷◌, ◌++◌, drop, vec_items}
use Rattle.std.specs.List.{flat_map}
use Rattle.notation.specs.Quoted.{written, quoted}
use Rattle.notation.proofs.quoting.quoted_text.Given as goal

-- What is written and what is left to write make the whole.
abbrev pub invariant-loop-byte : goal.invariant-loop-byte
invariant-loop-byte l = vec_items l.out ++ (flat_map written (drop l.byte-index l.bytes) ++ 0x22 ∷ []) ≡ quoted l.bytes
