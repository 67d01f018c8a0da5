-- Where a place lies in a list of chunks, as a spot tells it, and the length of the chunk there. A place at the text's
-- end, or behind it, is in no chunk, and the length is 0.
use Rattle.std.specs.Prelude.{ℕ, List, [], length, slice_index_or}
use Rattle.chunks.specs.declared.spot.Spot.{Spot}
use Rattle.chunks.specs.declared.sized_spot.SizedSpot.{SizedSpot}
use Rattle.chunks.specs.Spot.{spot_in}

-- A spot with the length of the chunk that it tells.
abbrev pub sized : List (List ℕ) → Spot → SizedSpot
sized cs s = record { chunk = s.chunk; inside = s.inside; size = length (slice_index_or cs s.chunk []) }

abbrev pub sized_spot_in : List (List ℕ) → ℕ → SizedSpot
sized_spot_in cs place = sized cs (spot_in cs place)

-- Without the length it is the spot.
abbrev pub spot_of : SizedSpot → Spot
spot_of s = record { chunk = s.chunk; inside = s.inside }
