use Rattle.slots.proofs.Linking.{linked}
use Rattle.balance.proofs.link.link.Goals as goal

pub returns : goal.returns
returns g c l r ready level =
    linked (g.M.Meter.scale c.args.meter.now) ready level c.place.new.memory _ (c.extent_over-extent.ensures l r ready) _ (c.reading_of-sum.ensures l r ready) c.place.ensures
