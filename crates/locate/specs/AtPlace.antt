-- Counting to a place: the search counts down the bytes that are left to it, and keeps the line ends and the line's units so far.
use Rattle.std.specs.Prelude.{◌≡◌, ℕ, ◌+◌, ◌-◌, ◌≤◌, cond, List, length, Some, None, Option, ◌==◌}
use Rattle.measure.specs.Bounded.{longest, capped}
use Rattle.measure.specs.Place.{ends_line, width}
use Rattle.positions.specs.Position.{position}
use Rattle.search.specs.Forwards.{stop}
use Rattle.locate.specs.declared.placed.Placed.{Placed}

abbrev pub placed : ℕ → ℕ → ℕ → Placed
placed left lines units = record { left = left; lines = lines; units = units }

-- The place behind one byte more.
abbrev pub counted : Placed → ℕ → Placed
counted w b = cond (ends_line b) (placed (w.left - 1) (capped (w.lines + 1)) 0) (placed (w.left - 1) w.lines (capped (w.units + width b)))

abbrev pub place_on : Placed → ℕ → Option Placed
place_on w b = cond (w.left == 0) None (Some (counted w b))

-- What it has kept when it stops is the position of the place, in a text of which readings tell.
abbrev pub CountComesToPosition : Type 0
CountComesToPosition = (place : ℕ) (text : List ℕ) → length text ≤ longest → let w = (stop place_on (placed place 0 0) text).at in (w.lines, w.units) ≡ position text place
