use Rattle.chunks.specs.Tree.{height}
use Rattle.questions.specs.Under.{tree_under}
use Rattle.questions.proofs.subtree.Subtree.+sized_spot.Given as goal

-- Each step goes down.
abbrev pub decreases-sized_spot : goal.decreases-sized_spot
decreases-sized_spot g l = height (tree_under l.self)
