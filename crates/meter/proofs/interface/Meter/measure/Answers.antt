use Rattle.std.proofs.Common.{◌≡◌, [], ◌∷◌, ap, ◌∙◌, subst, rules}
use Rattle.std.proofs.lemmas.Fn.{fold_over, slice_gives, fronts}
use Rattle.measure.specs.Measure.{reading}
use Rattle.measure.proofs.Measure.{reading_append}
use Rattle.meter.proofs.interface.Meter.measure.Goals as goal

pub returns : goal.returns
returns g c =
    let m = g.Self.Meter.scale c.args.self.now in
    let lawful = g.Self.Meter.lawful c.args.self.now in
    subst (λ bytes. c.fold.result ≡ reading m bytes) c.iter.ensures.rest
    (fold_over fronts (λ y. y.now) _ (λ bytes r. r ≡ reading m bytes) _
    (λ bytes r b r' f' j k.
    let more = reading_append m lawful bytes (b.now ∷ []) ∙ ap (m.join (reading m bytes)) (lawful.single_alone b.now) in
    search rules)
    _ _ _ _ (slice_gives c.iter.result) (search rules) c.fold.ensures.ran)
