use Rattle.chunks.specs.Tree.{height}
use Rattle.questions.specs.Under.{tree_under}
use Rattle.questions.proofs.subtree.Subtree.+reading.Given as goal

-- Each step goes down.
abbrev pub decreases-reading : goal.decreases-reading
decreases-reading g l = height (tree_under l.self)
