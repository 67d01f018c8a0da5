use Rattle.std.proofs.Common.{◌-◌}
use Rattle.editing.proofs.moving.+move_back.Given as goal

-- The cells that are left to move.
abbrev pub decreases-move_back : goal.decreases-move_back
decreases-move_back l = l.to - l.from
