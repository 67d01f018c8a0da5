-- Where a place lies in a list of chunks: the chunks that end before it or at it, and the bytes that are left then.
-- A place at the text's end, or behind it, has all chunks before it.
use Rattle.std.specs.Prelude.{ℕ, ◌+◌, ◌-◌, cond, List, [], ◌∷◌, length, nat_lt}
use Rattle.chunks.specs.declared.spot.Spot.{Spot}

-- The same place with n chunks more before it.
abbrev pub shifted : ℕ → Spot → Spot
shifted n s = record { chunk = n + s.chunk; inside = s.inside }

abbrev pub spot_in : List (List ℕ) → ℕ → Spot
spot_in [] place = record { chunk = 0; inside = place }
spot_in (c ∷ cs) place = cond (nat_lt place (length c)) (record { chunk = 0; inside = place }) (shifted 1 (spot_in cs (place - length c)))
