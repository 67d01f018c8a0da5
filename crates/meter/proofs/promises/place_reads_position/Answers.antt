use Rattle.measure.proofs.Place.{place_is}
use Rattle.meter.proofs.promises.place_reads_position.Goals as goal

pub returns : goal.returns
returns c = place_is
