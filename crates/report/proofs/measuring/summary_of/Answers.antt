use Rattle.std.proofs.Common.{ap, ◌∙◌}
use Rattle.measure.specs.Blank.{blank_measure}
use Rattle.report.specs.Summary.{summary}
use Rattle.report.proofs.Summarized.{summarized_is}
use Rattle.report.proofs.measuring.summary_of.Goals as goal

pub returns : goal.returns
returns g c =
    let grammar = c.document_meter-meter.result.first.grammar in
    c.summarize.ensures
    ∙ summarized_is (g.G.Grammar.meaning grammar) c.args.text.now (g.G.Grammar.lawful grammar) blank_measure c.measure-reading.result c.measure-reading.ensures
    ∙ ap (λ x. summary (g.G.Grammar.meaning x) c.args.text.now) c.document_meter-meter.ensures.grammar
