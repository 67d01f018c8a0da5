-- The laws of sized spots: over chunks on the left, one chunk and chunks on the right; and that they tell the spots.
use Rattle.std.proofs.Common.{◌≡◌, ℕ, suc, ◌+◌, ◌-◌, ◌<◌, ◌≤◌, List, [], ◌∷◌, ◌++◌, length, get_or, sym, refl, ap, ◌∙◌, arith}
use Rattle.std.proofs.lemmas.List.{get_or_append_left, get_or-append-add}
use Rattle.chunks.specs.declared.spot.Spot.{Spot}
use Rattle.chunks.specs.declared.sized_spot.SizedSpot.{SizedSpot}
use Rattle.chunks.specs.Cut.{joined}
use Rattle.chunks.specs.SizedSpot.{sized, sized_spot_in, spot_of}
use Rattle.chunks.specs.Spot.{shifted, spot_in}
use Rattle.chunks.proofs.Spotting.{spot_here, spot_behind, spot_left, spot_right, spot_few, spot_within}

pub sized_here : (c : List ℕ) (cs : List (List ℕ)) (p : ℕ) → p < length c → sized_spot_in (c ∷ cs) p ≡ record { chunk = 0; inside = p; size = length c }
sized_here c cs p h = ap (sized (c ∷ cs)) (spot_here c cs p h)

-- No more chunks lie before a place than there are.
pub sized_few : (cs : List (List ℕ)) (p : ℕ) → (sized_spot_in cs p).chunk ≤ length cs
sized_few cs p = spot_few cs p

-- Without its length a sized spot is the spot.
pub sized_tells : (cs : List (List ℕ)) (p : ℕ) → spot_of (sized_spot_in cs p) ≡ spot_in cs p
sized_tells cs p = refl

-- A sized spot in chunks behind others.
sized_shifted : (xs ys : List (List ℕ)) (s : Spot) → sized (xs ++ ys) (shifted (length xs) s) ≡ record { chunk = length xs + s.chunk; inside = s.inside; size = length (get_or ys s.chunk []) }
sized_shifted xs ys s = let e = ap length (get_or-append-add xs ys s.chunk []) in λ z. record { chunk = length xs + s.chunk; inside = s.inside; size = e z }

pub sized_behind : (c : List ℕ) (cs : List (List ℕ)) (p : ℕ) → length c ≤ p → let s = sized_spot_in cs (p - length c) in sized_spot_in (c ∷ cs) p ≡ record { chunk = 1 + s.chunk; inside = s.inside; size = s.size }
sized_behind c cs p h = ap (sized (c ∷ cs)) (spot_behind c cs p h) ∙ sized_shifted (c ∷ []) cs (spot_in cs (p - length c))

module _ (xs : List (List ℕ)) (c : List ℕ) (ys : List (List ℕ)) (p : ℕ) where
  -- The place lies in the chunks on the left.
  pub sized_left : p < length (joined xs) → sized_spot_in (xs ++ (c ∷ ys)) p ≡ sized_spot_in xs p
  sized_left h =
      let s = spot_in xs p in
      let e = ap length (get_or_append_left xs (c ∷ ys) [] s.chunk (spot_within xs p h)) in
      let lift : sized (xs ++ (c ∷ ys)) s ≡ sized xs s = λ z. record { chunk = s.chunk; inside = s.inside; size = e z } in
      ap (sized (xs ++ (c ∷ ys))) (spot_left xs (c ∷ ys) p h) ∙ lift

  module _ (behind : length (joined xs) ≤ p) where
    -- It lies in the chunk itself.
    pub sized_own : p - length (joined xs) < length c → sized_spot_in (xs ++ (c ∷ ys)) p ≡ record { chunk = length xs; inside = p - length (joined xs); size = length c }
    sized_own h =
        let none : length xs + 0 ≡ length xs = omega arith in
        ap (sized (xs ++ (c ∷ ys))) (spot_right xs (c ∷ ys) p behind ∙ ap (shifted (length xs)) (spot_here c ys (p - length (joined xs)) h))
        ∙ sized_shifted xs (c ∷ ys) (record { chunk = 0; inside = p - length (joined xs) })
        ∙ ap (λ n. record { chunk = n; inside = p - length (joined xs); size = length c }) none

    -- It lies in the chunks on the right, or behind them.
    pub sized_right : length c ≤ p - length (joined xs) → (rest : SizedSpot) → rest ≡ sized_spot_in ys (p - length (joined xs) - length c) →
        sized_spot_in (xs ++ (c ∷ ys)) p ≡ record { chunk = length xs + 1 + rest.chunk; inside = rest.inside; size = rest.size }
    sized_right h rest is =
        let s = spot_in ys (p - length (joined xs) - length c) in
        let far = shifted 1 s in
        let sum : length xs + (1 + s.chunk) ≡ length xs + 1 + s.chunk = omega arith in
        let one : 1 + s.chunk ≡ suc s.chunk = omega arith in
        ap (sized (xs ++ (c ∷ ys))) (spot_right xs (c ∷ ys) p behind ∙ ap (shifted (length xs)) (spot_behind c ys (p - length (joined xs)) h))
        ∙ sized_shifted xs (c ∷ ys) far
        ∙ ap (λ n. record { chunk = length xs + (1 + s.chunk); inside = s.inside; size = length (get_or (c ∷ ys) n []) }) one
        ∙ ap (λ n. record { chunk = n; inside = s.inside; size = length (get_or ys s.chunk []) }) sum
        ∙ ap (λ (r : SizedSpot). record { chunk = length xs + 1 + r.chunk; inside = r.inside; size = r.size }) (sym is)
