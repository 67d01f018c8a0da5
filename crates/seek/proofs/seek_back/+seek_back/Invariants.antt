use Rattle.chunks.specs.Tree.{height}
use Rattle.questions.specs.Under.{tree_under}
use Rattle.seek.proofs.seek_back.+seek_back.Given as goal

-- Each step goes down.
abbrev pub decreases-seek_back : goal.decreases-seek_back
decreases-seek_back g l = height (tree_under l.tree)
