use Rattle.hosting.proofs.Naming.{found_by_name}
use Rattle.hosting.proofs.options.pile_named.Goals as goal

pub returns : goal.returns
returns c = found_by_name c.args.word.now c.named.result c.named.ensures
