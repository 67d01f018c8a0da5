use Rattle.measure.proofs.Walk.{entries_tell}
use Rattle.walks.proofs.promises.walk_entries_tell.Goals as goal

pub returns : goal.returns
returns g c = entries_tell (g.G.Grammar.meaning c.args.grammar.now) (g.G.Grammar.lawful c.args.grammar.now)
