use Rattle.exchange.proofs.build.+build.Given as goal

-- Each side has fewer chunks.
abbrev pub decreases-build : goal.decreases-build
decreases-build g l = l.n
