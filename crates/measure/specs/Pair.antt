-- Two meters as one: each reading is a pair, and nothing passes from one side to the other.
use Rattle.measure.specs.Measure.{Measure}
use Rattle.measure.specs.declared.pair_reading.PairReading.{PairReading}

abbrev pub pair_measure : {A B : Type 0} → Measure A → Measure B → Measure (PairReading A B)
pair_measure μ ν = record {
  empty = record { first = μ.empty; second = ν.empty };
  single = λ b. record { first = μ.single b; second = ν.single b };
  join = λ r q. record { first = μ.join r.first q.first; second = ν.join r.second q.second };
}
