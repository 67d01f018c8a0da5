-- Chunks written over those of a run, one for one.
use Rattle.std.specs.Prelude.{ℕ, suc, ◌-◌, cond, ◌&&◌, List, [], ◌∷◌, nat_le, nat_lt}
use Rattle.chunks.specs.Cut.{chunk_at}

-- The chunk that is in place n, which had the chunk c: of the run from `from` up to `to` it is a new one.
abbrev pub renewed : List ℕ → ℕ → ℕ → ℕ → ℕ → List ℕ → List ℕ
renewed bytes count from to n c = cond (nat_le from n && nat_lt n to) (chunk_at bytes count (n - from)) c

-- The same of chunks in the places from n on.
abbrev pub over : List ℕ → ℕ → ℕ → ℕ → ℕ → List (List ℕ) → List (List ℕ)
over bytes count from to n [] = []
over bytes count from to n (c ∷ cs) = renewed bytes count from to n c ∷ over bytes count from to (suc n) cs
