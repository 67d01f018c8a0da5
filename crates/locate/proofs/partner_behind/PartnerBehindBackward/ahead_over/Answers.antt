use Rattle.std.proofs.Common.{sym, ap, ◌∙◌}
use Rattle.search.specs.Backwards.{forwards}
use Rattle.locate.specs.PartnerBehind.{trace_on}
use Rattle.locate.proofs.Nesting.{stays_lost, lost_unless_traced, traced_over_text}
use Rattle.locate.proofs.partner_behind.PartnerBehindBackward.ahead_over.Goals as goal

pub returns-in_err-from : goal.returns-in_err-from
returns-in_err-from g c text e =
    let a = g.G.Grammar.meaning c.args.self.now.grammar.now in
    c.from_residual.ensures ∙ sym (ap (λ f. forwards (trace_on a) f text) c.in_err-from.was ∙ stays_lost a text)

pub returns-in_err-passage : goal.returns-in_err-passage
returns-in_err-passage g c text e =
    let grammar = c.args.self.now.grammar.now in
    c.from_residual-in_err-passage.ensures ∙ sym (lost_unless_traced (g.G.Grammar.meaning grammar) (g.G.Grammar.lawful grammar) text c.args.reading.now e c.args.state c.in_ok-from.from c.in_ok-from.was c.in_err-passage.ensures.lost)

pub returns : goal.returns
returns g c text e =
    let grammar = c.args.self.now.grammar.now in
    let told = c.in_ok-passage.ensures.told in
    sym (traced_over_text (g.G.Grammar.meaning grammar) (g.G.Grammar.lawful grammar) text c.in_ok-passage.passage.now (sym e ∙ told.0) c.args.state c.in_ok-from.from c.in_ok-from.was c.entry.result c.entry.ensures told.1)
