-- The blank meter is lawful.
use Rattle.std.proofs.Common.{refl}
use Rattle.measure.specs.Measure.{Lawful}
use Rattle.measure.specs.Blank.{blank_measure}
use Rattle.measure.proofs.Measure.{lawful_whole}

pub blank_lawful : Lawful blank_measure
blank_lawful = lawful_whole blank_measure (λ text. tt) refl (λ b. refl) (λ xs ys. refl)
