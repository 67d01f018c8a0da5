-- A word is cut at its first comma.
use Rattle.std.proofs.Common.{◌≡◌, ◌+◌, ◌==◌, ℕ, cond, Bool, true, false, not, List, [], ◌∷◌, length, take, drop, Some, None, Option, option_map, nat_lt, refl, ap, ◌∙◌, arith}
use Rattle.std.specs.List.{position, position_or_len}
use Rattle.std.proofs.lemmas.Bool.Decides.{nat_tests}
use Rattle.notation.proofs.Cuts.{taken_next}
use Rattle.session.specs.Records.{comma_front, comma_rest}

abbrev pub is_comma : ℕ → Bool
is_comma b = b == 0x2C

abbrev below : ℕ → ℕ → Option ℕ
below n size = cond (nat_lt n size) (Some n) None

abbrev rest_at : List ℕ → Option ℕ → Option (List ℕ)
rest_at word place = option_map (λ i. drop (i + 1) word) place

front_cut : (word : List ℕ) → comma_front word ≡ take (position_or_len is_comma word) word
front_cut [] = refl
front_cut (b ∷ bs) = taken_next b (position_or_len is_comma bs) bs (comma_front bs) (is_comma b) (front_cut bs)

rest_next : (b n : ℕ) (bs : List ℕ) (rest : Option (List ℕ)) (found : Bool) → rest ≡ rest_at bs (below n (length bs)) → cond found (Some bs) rest ≡ rest_at (b ∷ bs) (below (cond (not found) (1 + n) 0) (length (b ∷ bs)))
rest_next b n bs rest true so_on = grind (arith, nat_tests)
rest_next b n bs rest false so_on = grind (arith, nat_tests)

-- What is behind the first comma, and in front of it.
pub rest_cut : (word : List ℕ) → comma_rest word ≡ rest_at word (position is_comma word)
rest_cut [] = refl
rest_cut (b ∷ bs) = rest_next b (position_or_len is_comma bs) bs (comma_rest bs) (is_comma b) (rest_cut bs)

place_of : (n size i : ℕ) → below n size ≡ Some i → n ≡ i
place_of n size i found = grind (arith, nat_tests)

pub front_at : (word : List ℕ) (i : ℕ) → position is_comma word ≡ Some i → comma_front word ≡ take i word
front_at word i found = front_cut word ∙ ap (λ n. take n word) (place_of (position_or_len is_comma word) (length word) i found)
