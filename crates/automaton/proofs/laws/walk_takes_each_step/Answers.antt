use Rattle.automaton.proofs.LawsHold.{walk_takes_each_step}
use Rattle.automaton.proofs.laws.walk_takes_each_step.Goals as goal

pub returns : goal.returns
returns c = walk_takes_each_step
