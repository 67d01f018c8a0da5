use Rattle.lookup.proofs.Found.{behind}
use Rattle.lookup.proofs.partner.partner_behind.Goals as goal

pub returns : goal.returns
returns g c kept kind is =
    behind c.args.tree.now (g.G.Grammar.meaning c.args.meter.now.first.grammar) c.args.place kind is c.search_behind-found.result (c.search_behind-found.ensures.finds kept) c.then_some.result c.saturating_sub.result c.then_some.ensures c.saturating_sub.ensures
