-- The line and the column of a place, and the place of a line and a column.
use Rattle.std.specs.Prelude.{ℕ, ◌+◌, Bool, ◌&&◌, List, length, take, unwrap_or, ◌==◌, nat_le}
use Rattle.measure.specs.Place.{line_ends, units}
use Rattle.search.specs.Places.{greatest}

module _ (text : List ℕ) where
  -- The line ends before a place, and the units since the last of them.
  abbrev pub line_of : ℕ → ℕ
  line_of place = line_ends (take place text)

  abbrev pub column_of : ℕ → ℕ
  column_of place = units (take place text)

  abbrev pub position : ℕ → ℕ × ℕ
  position place = (line_of place, column_of place)

  -- A place in the line, and not past the column. The places of a line reach up to its line end, or to the end of the text.
  abbrev pub in_line : ℕ → ℕ → ℕ → Bool
  in_line line column place = line_of place == line && nat_le (column_of place) column

  -- The greatest such place.
  abbrev pub spot : ℕ → ℕ → ℕ
  spot line column = unwrap_or (greatest (in_line line column) (length text + 1)) 0
