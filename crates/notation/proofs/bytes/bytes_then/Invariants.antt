use Rattle.std.proofs.Common.{◌≡◌, ◌<◌, ◌++◌, drop, vec_items}
use Rattle.std.specs.Option.{option_map}
use Rattle.notation.specs.Bytes.{bytes_from, bytes_then, digit_kept}
use Rattle.notation.proofs.bytes.bytes_then.Given as goal

-- What is read and what is left to read make what is read of all.
abbrev pub invariant-loop-i : goal.invariant-loop-i
invariant-loop-i l = (option_map (λ read. (vec_items l.out ++ read.0, read.1)) (bytes_from l.spot (drop l.i l.line)) ≡ bytes_then l.line) × (digit_kept l.spot < 16)
