use Rattle.std.proofs.Common.{◌+◌, ◌*◌}
use Rattle.slots.specs.View.{height_at}
use Rattle.balance.proofs.join.+join.Given as goal

-- Each step goes down on the near side, or turns to the higher side.
abbrev pub decreases-join : goal.decreases-join
decreases-join g l = height_at l.memory.now l.near + 2 * height_at l.memory.now l.far
