use Rattle.automaton.proofs.LawsHold.{piles_are_lawful}
use Rattle.automaton.proofs.laws.piles_are_lawful.Goals as goal

pub returns : goal.returns
returns c = piles_are_lawful
