use Rattle.std.proofs.Common.{◌+◌, ◌*◌}
use Rattle.chunks.specs.Tree.{height}
use Rattle.questions.specs.Under.{tree_under}
use Rattle.questions.proofs.subtree.Subtree.+strip.Given as goal

-- Each step into a part goes down.
abbrev pub decreases-strip : goal.decreases-strip
decreases-strip g l = 2 * height (tree_under l.self) + 1

abbrev pub decreases-strip_parts : goal.decreases-strip_parts
decreases-strip_parts g l = 2 * height (tree_under l.self)
