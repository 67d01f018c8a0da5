use Rattle.automaton.proofs.LawsHold.{walk_can_be_cut}
use Rattle.automaton.proofs.laws.walk_can_be_cut.Goals as goal

pub returns : goal.returns
returns c = walk_can_be_cut
