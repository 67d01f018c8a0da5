use Rattle.std.proofs.Common.{◌-◌}
use Rattle.editing.proofs.moving.+move_on.Given as goal

-- The cells that are left to move.
abbrev pub decreases-move_on : goal.decreases-move_on
decreases-move_on l = l.to - l.from
