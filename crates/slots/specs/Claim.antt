-- What is said of the readings that slots keep: nothing, or that they are a meter's readings.
-- The structure of a tree is stated with `nothing`, so that it is right whatever meter was used.
use Rattle.std.specs.Prelude.{◌≡◌, ℕ, List}
use Rattle.measure.specs.Measure.{Measure, reading}

pub data Claim (R : Type 0) : Type 0 where
  nothing : Claim R
  kept : Measure R → Claim R

-- What a claim says of a value that is kept as the reading of bytes.
abbrev pub Says : {R : Type 0} → Claim R → R → List ℕ → Type 0
Says nothing r bytes = Unit {0}
Says (kept μ) r bytes = r ≡ reading μ bytes

-- A claim that a call with the meter μ keeps true: nothing, or the claim of that very meter.
abbrev pub Fair : {R : Type 0} → Claim R → Measure R → Type 0
Fair nothing μ = Unit {0}
Fair (kept ν) μ = ν ≡ μ
