use Rattle.std.proofs.Common.{sym, ◌∙◌}
use Rattle.locate.proofs.Nesting.{behind_over_text}
use Rattle.locate.proofs.partner_behind.PartnerBehindBackward.pass_back.Goals as goal

pub returns : goal.returns
returns g c text e =
    let grammar = c.args.self.now.grammar.now in
    let told = c.in_ok-passage.ensures.told in
    behind_over_text (g.G.Grammar.meaning grammar) (g.G.Grammar.lawful grammar) text c.in_ok-passage.passage.now (sym e ∙ told.0) c.args.state c.in_ok-from.from c.in_ok-from.was c.entry-entry.result c.entry-entry.ensures told.1 c.args.at c.depth_over.result c.depth_over.ensures
