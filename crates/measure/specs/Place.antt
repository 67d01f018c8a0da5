-- The meter of places: the bytes of a text, its line ends, and the units of its last line.
-- The place behind a text stands on the line that `line_ends` counts, at the column that `units` counts.
use Rattle.std.specs.Prelude.{◌≡◌, ℕ, ◌+◌, Bool, cond, ◌&&◌, List, [], ◌∷◌, length, ◌==◌, nat_le, Option, Some}
use Rattle.measure.specs.Measure.{Measure, reading}
use Rattle.measure.specs.Bounded.{bounded, join_bounded, capped}
use Rattle.measure.specs.declared.place_reading.Extent.{Extent}

-- The byte that ends a line. No other definition knows it.
abbrev pub ends_line : ℕ → Bool
ends_line b = b == 0x0A

-- The UTF-16 units that a byte stands for. A character is counted at its first byte: those that go on have none,
-- and the first of four counts two.
abbrev pub width : ℕ → ℕ
width b = cond (ends_line b) 0 (cond (nat_le 0x80 b && nat_le b 0xBF) 0 (cond (nat_le 0xF0 b) 2 1))

-- The line ends of a text.
abbrev pub line_ends : List ℕ → ℕ
line_ends [] = 0
line_ends (b ∷ bs) = cond (ends_line b) 1 0 + line_ends bs

-- The units of its last line: a byte counts if no line ends at it or behind it.
abbrev pub units : List ℕ → ℕ
units [] = 0
units (b ∷ bs) = cond (line_ends (b ∷ bs) == 0) (width b) 0 + units bs

-- What the meter says of a text.
abbrev pub extent : List ℕ → Extent
extent text = record { length = length text; lines = line_ends text; units = units text }

abbrev pub place_reading : List ℕ → Option Extent
place_reading = bounded extent

-- One behind the other: a line end on the right cuts off the units of the left.
abbrev pub join_extents : Extent → Extent → Extent
join_extents p q = record {
  length = p.length + q.length;
  lines = capped (p.lines + q.lines);
  units = cond (q.lines == 0) (capped (p.units + q.units)) q.units;
}

abbrev pub place_measure : Measure (Option Extent)
place_measure = record {
  empty = Some (record { length = 0; lines = 0; units = 0 });
  single = λ b. Some (record { length = 1; lines = cond (ends_line b) 1 0; units = width b });
  join = join_bounded (λ p. p.length) join_extents;
}

-- The reading of every text is what is said of it above.
abbrev pub PlaceReadsPosition : Type 0
PlaceReadsPosition = (text : List ℕ) → reading place_measure text ≡ place_reading text
