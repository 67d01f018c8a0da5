use Rattle.slots.proofs.Text.{size_read}
use Rattle.questions.proofs.own.size.Goals as goal

pub returns : goal.returns
returns g c = size_read c.args.memory.now c.requires.0 c.args.i c.requires.1 c.index-slots-i.result
