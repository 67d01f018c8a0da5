-- Ranges of lists: over `++`, and clipped to what is there.
use Rattle.std.proofs.Common.{◌≡◌, ℕ, zero, suc, ◌-◌, ◌≤◌, List, [], ◌∷◌, ◌++◌, length, take, drop, sym, ap, ◌∙◌, ⊎_elim, arith}
use Rattle.std.specs.List.{between}
use Rattle.std.proofs.lemmas.List.{take_all, drop_all, length-take, length-drop, nil_from_length}
use Rattle.std.proofs.lemmas.Slice.{between_is}
use Rattle.std.proofs.lemmas.Bool.{cases_lt}

-- The first elements of two lists, one behind the other, and what lies behind them.
pub take_over : (t : ℕ) (xs ys : List ℕ) → take t (xs ++ ys) ≡ take t xs ++ take (t - length xs) ys
take_over zero xs ys = let e : 0 - length xs ≡ 0 = omega arith in sym (ap (λ n. take n ys) e)
take_over (suc t) [] ys = let e : suc t ≡ suc t - 0 = omega arith in ap (λ n. take n ys) e
take_over (suc t) (x ∷ xs) ys = let e : t - length xs ≡ suc t - suc (length xs) = omega arith in ap (λ l. x ∷ l) (take_over t xs ys) ∙ ap (λ n. x ∷ (take t xs ++ take n ys)) e

pub drop_over : (f : ℕ) (xs ys : List ℕ) → drop f (xs ++ ys) ≡ drop f xs ++ drop (f - length xs) ys
drop_over zero xs ys = let e : 0 - length xs ≡ 0 = omega arith in sym (ap (λ n. xs ++ drop n ys) e)
drop_over (suc f) [] ys = let e : suc f ≡ suc f - 0 = omega arith in ap (λ n. drop n ys) e
drop_over (suc f) (x ∷ xs) ys = let e : f - length xs ≡ suc f - suc (length xs) = omega arith in drop_over f xs ys ∙ ap (λ n. drop f xs ++ drop n ys) e

-- A range of two lists, one behind the other.
pub between_append : (f t : ℕ) (xs ys : List ℕ) → between f t (xs ++ ys) ≡ between f t xs ++ between (f - length xs) (t - length xs) ys
between_append f t xs ys =
    let n = length xs in
    between_is (xs ++ ys) f t
    ∙ ap (drop f) (take_over t xs ys)
    ∙ drop_over f (take t xs) (take (t - n) ys)
    ∙ ap (λ l. l ++ drop (f - length (take t xs)) (take (t - n) ys)) (sym (between_is xs f t))
    ∙ ap (λ l. between f t xs ++ l)
    (⊎_elim
    (λ h.
    let none : take (t - n) ys ≡ [] = nil_from_length (take (t - n) ys) (omega (arith, length-take (t - n) ys)) in
    ap (drop (f - length (take t xs))) none ∙ drop_all (f - length (take t xs)) [] (omega arith) ∙ sym (between_is ys (f - n) (t - n) ∙ ap (drop (f - n)) none ∙ drop_all (f - n) [] (omega arith)))
    (λ h.
    let long : length (take t xs) ≡ n = omega (arith, length-take t xs) in
    ap (λ k. drop (f - k) (take (t - n) ys)) long ∙ sym (between_is ys (f - n) (t - n)))
    (cases_lt t n))

-- All of a list, and nothing of it.
pub between_all : (t : ℕ) (xs : List ℕ) → length xs ≤ t → between 0 t xs ≡ xs
between_all t xs h = take_all (t - 0) xs (omega arith)

pub between_none : (f t : ℕ) (xs : List ℕ) → t ≤ f → between f t xs ≡ []
between_none f t xs h = nil_from_length (between f t xs) (omega (arith, length-take (t - f) (drop f xs)))

pub between_past : (f t : ℕ) (xs : List ℕ) → length xs ≤ f → between f t xs ≡ []
between_past f t xs h = nil_from_length (between f t xs) (omega (arith, length-take (t - f) (drop f xs), length-drop f xs))
