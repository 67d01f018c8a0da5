-- Going to a column of a line: the search counts down the line ends before the line, and then the line's units.
-- It stops at the end of the line, or before a byte that would lead past the column.
use Rattle.std.specs.Prelude.{◌≡◌, ℕ, ◌+◌, ◌-◌, ◌≤◌, cond, ◌||◌, List, Some, None, Option, ◌==◌, nat_lt}
use Rattle.measure.specs.Place.{ends_line, width, line_ends}
use Rattle.positions.specs.Position.{spot}
use Rattle.search.specs.Forwards.{stop}
use Rattle.locate.specs.declared.lined.Lined.{Lined}

abbrev pub lined : ℕ → ℕ → Lined
lined lines units = record { lines = lines; units = units }

abbrev pub column_on : ℕ → Lined → ℕ → Option Lined
column_on column w b =
    cond (w.lines == 0)
    (cond (ends_line b || nat_lt column (w.units + width b)) None (Some (lined 0 (w.units + width b))))
    (cond (ends_line b) (Some (lined (w.lines - 1) 0)) (Some w))

-- Over a whole text it stops at the spot of the line and the column.
abbrev pub ColumnComesToSpot : Type 0
ColumnComesToSpot = (text : List ℕ) (line column : ℕ) → line ≤ line_ends text → (stop (column_on column) (lined line 0) text).passed ≡ spot text line column
