use Rattle.measure.proofs.Walk.{walk_is}
use Rattle.walks.proofs.promises.walk_reads_text.Goals as goal

pub returns : goal.returns
returns g c = walk_is (g.G.Grammar.meaning c.args.grammar.now) (g.G.Grammar.lawful c.args.grammar.now)
