-- Readings that tell of texts up to a length; of a longer text they say only that it is overlong.
-- What is told within the length is any type T. Once overlong, a reading stays so, whatever it is joined with.
use Rattle.std.specs.Prelude.{ℕ, ◌+◌, ◌-◌, ◌^◌, min, cond, List, length, nat_le, Option, Some, None}

-- The most bytes of which a reading tells.
abbrev pub longest : ℕ
longest = 262144

-- What such a reading says of a text, from what is to be said within the length.
abbrev pub bounded : {T : Type 0} → (List ℕ → T) → List ℕ → Option T
bounded said text = cond (nat_le (length text) longest) (Some (said text)) None

-- The join of two, from the length that a T has and from the join within the length.
abbrev pub join_bounded : {T : Type 0} → (T → ℕ) → (T → T → T) → Option T → Option T → Option T
join_bounded long beside None q = None
join_bounded long beside (Some p) None = None
join_bounded long beside (Some p) (Some q) = cond (nat_le (long p + long q) longest) (Some (beside p q)) None

-- The counts of a text never come near this. Where values that are no text's reading are joined, a count stops here.
abbrev pub capped : ℕ → ℕ
capped n = min n (2 ^ 32 - 1)
