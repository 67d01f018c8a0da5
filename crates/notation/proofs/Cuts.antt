-- A line is cut at the first byte that is a blank, or at the first that is none.
use Rattle.std.proofs.Common.{◌≡◌, ◌+◌, ◌≤◌, ℕ, cond, Bool, true, false, not, List, [], ◌∷◌, length, take, drop, Some, None, Option, nat_lt, refl, ap, ◌∙◌, arith}
use Rattle.std.specs.List.{position, position_or_len}
use Rattle.std.specs.Option.{unwrap_or}
use Rattle.std.proofs.lemmas.Bool.Decides.{nat_tests}
use Rattle.std.proofs.lemmas.List.Sums.{prefix_len-le-length}
use Rattle.std.proofs.lemmas.Grind.{common_steps}
use Rattle.notation.specs.Words.{is_blank, skipped, front_word, front_rest}

-- What stands up to a byte that a test finds, and what stands from there on, with one byte more in front.
pub taken_next : (b n : ℕ) (bs front : List ℕ) (found : Bool) → front ≡ take n bs → cond found [] (b ∷ front) ≡ take (cond (not found) (1 + n) 0) (b ∷ bs)
taken_next b n bs front true so_on = refl
taken_next b n bs front false so_on = grind (arith, common_steps)

pub dropped_next : (b n : ℕ) (bs rest : List ℕ) (found : Bool) → rest ≡ drop n bs → cond found (b ∷ bs) rest ≡ drop (cond (not found) (1 + n) 0) (b ∷ bs)
dropped_next b n bs rest true so_on = refl
dropped_next b n bs rest false so_on = grind (arith, common_steps)

pub front_word_cut : (line : List ℕ) → front_word line ≡ take (position_or_len is_blank line) line
front_word_cut [] = refl
front_word_cut (b ∷ bs) = taken_next b (position_or_len is_blank bs) bs (front_word bs) (is_blank b) (front_word_cut bs)

pub front_rest_cut : (line : List ℕ) → front_rest line ≡ drop (position_or_len is_blank line) line
front_rest_cut [] = refl
front_rest_cut (b ∷ bs) = dropped_next b (position_or_len is_blank bs) bs (front_rest bs) (is_blank b) (front_rest_cut bs)

skipped_next : (b n : ℕ) (bs rest : List ℕ) (blank : Bool) → rest ≡ drop n bs → cond blank rest (b ∷ bs) ≡ drop (cond (not (not blank)) (1 + n) 0) (b ∷ bs)
skipped_next b n bs rest true so_on = grind (arith, common_steps)
skipped_next b n bs rest false so_on = refl

pub skipped_cut : (line : List ℕ) → skipped line ≡ drop (position_or_len (λ b. not (is_blank b)) line) line
skipped_cut [] = refl
skipped_cut (b ∷ bs) = skipped_next b (position_or_len (λ x. not (is_blank x)) bs) bs (skipped bs) (is_blank b) (skipped_cut bs)

at_or_end : (n size : ℕ) → n ≤ size → unwrap_or (cond (nat_lt n size) (Some n) None) size ≡ n
at_or_end n size within = grind (arith, nat_tests)

-- Where a search ends: at the byte that it finds, or at the end of the line.
pub place_or_end : (test : ℕ → Bool) (line : List ℕ) (found : Option ℕ) → found ≡ position test line → unwrap_or found (length line) ≡ position_or_len test line
place_or_end test line found is =
    ap (λ o. unwrap_or o (length line)) is
    ∙ at_or_end (position_or_len test line) (length line) (prefix_len-le-length (λ b. not (test b)) line)
