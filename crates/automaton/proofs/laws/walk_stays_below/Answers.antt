use Rattle.automaton.proofs.LawsHold.{walk_stays_below}
use Rattle.automaton.proofs.laws.walk_stays_below.Goals as goal

pub returns : goal.returns
returns c = walk_stays_below
