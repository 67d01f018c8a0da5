use Rattle.slots.specs.View.{height_at}
use Rattle.in_place.proofs.rewrite.+rewrite.Given as goal

-- Each step goes down.
abbrev pub decreases-rewrite : goal.decreases-rewrite
decreases-rewrite g l = height_at l.memory.now l.link
