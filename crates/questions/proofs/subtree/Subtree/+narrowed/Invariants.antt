use Rattle.chunks.specs.Tree.{height}
use Rattle.questions.specs.Under.{tree_under}
use Rattle.questions.proofs.subtree.Subtree.+narrowed.Given as goal

-- Each step goes down.
abbrev pub decreases-narrowed : goal.decreases-narrowed
decreases-narrowed g l = height (tree_under l.self)
