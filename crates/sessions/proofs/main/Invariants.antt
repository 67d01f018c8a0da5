use Rattle.std.proofs.Common.{length}
use Rattle.sessions.proofs.main.Given as goal

-- Each session takes its part of what is left.
abbrev pub decreases-loop-left : goal.decreases-loop-left
decreases-loop-left l = length l.left
