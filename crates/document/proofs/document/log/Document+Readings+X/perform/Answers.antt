use Rattle.editing.specs.Content.{scale_of}
use Rattle.document.proofs.Law.{log_goes_on}
use Rattle.document.proofs.document.log.Document+Readings+X.perform.Goals as goal

pub returns-clause-law : goal.returns-clause-law
returns-clause-law g c first log follows is =
    let a = g.G.Grammar.meaning c.args.meter.now.first.grammar in
    let μ = scale_of g.G.Grammar.meaning g.H.Meter.scale c.args.meter.now in
    let told = c.carry_out.ensures in
    log_goes_on a μ first log _ _ follows is told.obeys told.keeps told.records
