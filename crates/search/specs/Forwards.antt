-- A search from left to right keeps a small value of type A and takes one byte after another.
-- `next` gives the value behind a byte, or nothing where the search stops before it.
use Rattle.std.specs.Prelude.{◌≡◌, ℕ, ◌+◌, ◌<◌, ◌≤◌, true, false, cond, List, [], ◌∷◌, length, take, Some, None, Option, slice_index}
use Rattle.search.specs.declared.stop.Stop.{Stop}

module _ {A : Type 0} where
  abbrev pub then : Option A → (A → Option A) → Option A
  then None f = None
  then (Some x) f = f x

  -- The value behind bytes that the search runs through, or nothing where it stops before one of them.
  abbrev pub through : (A → ℕ → Option A) → A → List ℕ → Option A
  through next a [] = Some a
  through next a (b ∷ bs) = then (next a b) (λ x. through next x bs)

  -- A stop n bytes further on.
  abbrev pub shifted : ℕ → Stop A → Stop A
  shifted n s = record { passed = n + s.passed; at = s.at; stopped = s.stopped }

  abbrev pub stop_or : A → Option A → (A → Stop A) → Stop A
  stop_or a None go = record { passed = 0; at = a; stopped = true }
  stop_or a (Some x) go = shifted 1 (go x)

  -- Where the search comes to in bytes: as far as it runs.
  abbrev pub stop : (A → ℕ → Option A) → A → List ℕ → Stop A
  stop next a [] = record { passed = 0; at = a; stopped = false }
  stop next a (b ∷ bs) = stop_or a (next a b) (λ x. stop next x bs)

  -- A search that did not stop goes on.
  abbrev pub after : Stop A → (A → Stop A) → Stop A
  after s go = cond s.stopped s (shifted s.passed (go s.at))

  -- The same as a relation: it runs through the bytes before, and then stops before a byte or is at the end.
  pub record StopsAt (next : A → ℕ → Option A) (a : A) (bytes : List ℕ) (s : Stop A) : Type 0 where
    pub within : s.passed ≤ length bytes
    pub runs : through next a (take s.passed bytes) ≡ Some s.at
    pub before_byte : s.stopped ≡ true → (s.passed < length bytes) × (next s.at (slice_index bytes s.passed) ≡ None)
    pub at_end : s.stopped ≡ false → s.passed ≡ length bytes
