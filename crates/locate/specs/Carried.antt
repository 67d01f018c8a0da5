-- What the units of a line come to behind a text of so many line ends: a line end cuts them off.
use Rattle.std.specs.Prelude.{ℕ, cond, ◌==◌}

abbrev pub carried : ℕ → ℕ → ℕ
carried units lines = cond (lines == 0) units 0
