use Rattle.std.proofs.Common.{◌+◌, ◌*◌}
use Rattle.chunks.specs.Tree.{height}
use Rattle.questions.specs.Under.{tree_under}
use Rattle.questions.proofs.subtree.Subtree.+copy.Given as goal

-- Each step into a part goes down.
abbrev pub decreases-copy : goal.decreases-copy
decreases-copy g l = 2 * height (tree_under l.self) + 1

abbrev pub decreases-copy_parts : goal.decreases-copy_parts
decreases-copy_parts g l = 2 * height (tree_under l.self)
