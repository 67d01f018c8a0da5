use Rattle.automaton.proofs.LawsHold.{colours_alone_show}
use Rattle.automaton.proofs.laws.colours_alone_show.Goals as goal

pub returns : goal.returns
returns c = colours_alone_show
