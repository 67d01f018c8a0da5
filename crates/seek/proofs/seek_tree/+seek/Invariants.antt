use Rattle.chunks.specs.Tree.{height}
use Rattle.questions.specs.Under.{tree_under}
use Rattle.seek.proofs.seek_tree.+seek.Given as goal

-- Each step goes down.
abbrev pub decreases-seek : goal.decreases-seek
decreases-seek g l = height (tree_under l.tree)
