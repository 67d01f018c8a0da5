-- The blank meter: it tells nothing, so that it has one reading for every text.
-- It stands where a meter is asked for and none is wanted.
use Rattle.measure.specs.Measure.{Measure}

abbrev pub blank_measure : Measure (Unit {0})
blank_measure = record { empty = tt; single = λ b. tt; join = λ r q. tt }
