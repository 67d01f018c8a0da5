use Rattle.std.proofs.Common.{◌+◌, arith}
use Rattle.std.proofs.lemmas.List.{length-drop}
use Rattle.editing.specs.Content.{text_in}
use Rattle.editing.proofs.Short.{text_short}
use Rattle.lookup.proofs.Found.{ahead}
use Rattle.lookup.proofs.partner.partner_ahead.Goals as goal

pub overflow_cast-found : goal.overflow_cast-found
overflow_cast-found g c = omega (arith, text_short c.args.tree.now, length-drop (c.args.place + 1) (text_in c.args.tree.now))

pub overflow_add-behind-2 : goal.overflow_add-behind-2
overflow_add-behind-2 g c = omega (arith, text_short c.args.tree.now, length-drop (c.args.place + 1) (text_in c.args.tree.now))

pub returns : goal.returns
returns g c kept kind is =
    ahead c.args.tree.now (g.G.Grammar.meaning c.args.meter.now.first.grammar) c.args.place kind is c.state_before-state.result (c.state_before-state.ensures kept) c.search_ahead-found.result (c.search_ahead-found.ensures.finds kept) c.then_some.result c.then_some.ensures
