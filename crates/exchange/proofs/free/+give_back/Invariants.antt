use Rattle.slots.specs.View.{height_at}
use Rattle.exchange.proofs.free.+give_back.Given as goal

-- Each step goes down.
abbrev pub decreases-give_back : goal.decreases-give_back
decreases-give_back g l = height_at l.memory.now l.link
