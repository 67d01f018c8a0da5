use Rattle.std.proofs.Common.{◌≡◌, take}
use Rattle.measure.specs.Walk.{entry}
use Rattle.walks.proofs.walk_meter.Walk.walk_from.Given as goal

-- The walk through the bytes so far.
abbrev pub invariant-loop-byte : goal.invariant-loop-byte
invariant-loop-byte g l = l.walked ≡ entry (g.G.Grammar.meaning l.self.grammar) l.state (take l.byte-index l.bytes)
