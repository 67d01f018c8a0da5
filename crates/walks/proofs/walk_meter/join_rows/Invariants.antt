use Rattle.std.proofs.Common.{◌++◌, drop}
use Rattle.measure.specs.Walk.{entry_at, onward}
use Rattle.measure.proofs.Rows.{Filled}
use Rattle.walks.proofs.walk_meter.join_rows.Given as goal

-- The entries walked on so far, with those behind them.
abbrev pub invariant-loop-entry : goal.invariant-loop-entry
invariant-loop-entry l = Filled (onward l.left l.right.entries) (entry_at l.left) l.entry-index (l.entry-items ++ drop l.count l.left)
