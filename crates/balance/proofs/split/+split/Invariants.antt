use Rattle.slots.specs.View.{height_at}
use Rattle.balance.proofs.split.+split.Given as goal

-- Each step goes down.
abbrev pub decreases-split : goal.decreases-split
decreases-split g l = height_at l.memory.now l.link
