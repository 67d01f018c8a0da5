use Rattle.std.proofs.Common.{◌≡◌, take}
use Rattle.measure.specs.Place.{line_ends}
use Rattle.editing.proofs.lines.line_ends_of.Given as goal

abbrev pub invariant-loop-byte : goal.invariant-loop-byte
invariant-loop-byte l = l.count ≡ line_ends (take l.byte-index l.bytes)
