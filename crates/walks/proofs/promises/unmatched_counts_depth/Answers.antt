use Rattle.measure.proofs.Unmatched.{counted_by_depth}
use Rattle.walks.proofs.promises.unmatched_counts_depth.Goals as goal

pub returns : goal.returns
returns g c = counted_by_depth (g.G.Grammar.meaning c.args.grammar.now)
