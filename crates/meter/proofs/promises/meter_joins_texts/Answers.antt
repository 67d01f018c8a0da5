use Rattle.measure.proofs.Measure.{reading_append}
use Rattle.meter.proofs.promises.meter_joins_texts.Goals as goal

pub returns : goal.returns
returns g c = reading_append (g.M.Meter.scale c.args.meter.now) (g.M.Meter.lawful c.args.meter.now)
