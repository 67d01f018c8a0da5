-- A table of 64 entries, and how it is filled from the first state on.
use Rattle.std.proofs.Common.{◌≡◌, ℕ, ◌<◌, cond, ltb, List, length, get_or, ◌∙◌, arith}
use Rattle.std.proofs.lemmas.List.FromFn.{length-map-range_with_len, get_or-map-range_with_len, fill_by_all}
use Rattle.measure.specs.Walk.{rows, still}
use Rattle.measure.specs.declared.walk_reading.Entry.{Entry}

pub length_rows : (f : ℕ → Entry) → length (rows f) ≡ 64
unfolding rows
length_rows f = length-map-range_with_len f 0 64

pub get_d_rows : (f : ℕ → Entry) (s : ℕ) (d : Entry) → s < 64 → get_or (rows f) s d ≡ f s
unfolding rows
get_d_rows f s d h = get_or-map-range_with_len f 0 64 s s d h (omega arith)

pub rows_all : (f : ℕ → Entry) (xs : List Entry) (d : Entry) → length xs ≡ 64 → ((s : ℕ) → s < 64 → get_or xs s d ≡ f s) → xs ≡ rows f
unfolding rows
rows_all f xs d = fill_by_all f xs 64 d

pub same_rows : (f g : ℕ → Entry) → ((s : ℕ) → s < 64 → f s ≡ g s) → rows f ≡ rows g
same_rows f g same = rows_all g (rows f) (still 0) (length_rows f) (λ s h. get_d_rows f s (still 0) h ∙ same s h)

-- The first n entries are written, by f, and the others are still by g.
pub record Filled (f g : ℕ → Entry) (n : ℕ) (xs : List Entry) : Type 0 where
  pub long : length xs ≡ 64
  pub each : (s : ℕ) → s < 64 → get_or xs s (still 0) ≡ cond (ltb s n) (f s) (g s)

module _ (f g : ℕ → Entry) where
  -- Where g is right from n on, the table is done.
  pub filled_all : (n : ℕ) (xs : List Entry) (h : ℕ → Entry) → Filled f g n xs → ((s : ℕ) → s < 64 → cond (ltb s n) (f s) (g s) ≡ h s) → xs ≡ rows h
  filled_all n xs h so_far right = rows_all h xs (still 0) so_far.long (λ s k. so_far.each s k ∙ right s k)
