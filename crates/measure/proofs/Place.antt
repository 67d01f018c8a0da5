-- The meter of places is lawful, and its reading of a text is what `place_reading` says.
use Rattle.std.proofs.Common.{◌≡◌, ℕ, ◌+◌, ◌*◌, ◌≤◌, cond, eqb, List, [], ◌∷◌, ◌++◌, length, sym, refl, ap, ◌∙◌, arith, Some}
use Rattle.std.proofs.lemmas.List.{length-append}
use Rattle.std.proofs.lemmas.Bool.Decides.{nat_tests}
use Rattle.measure.specs.Measure.{reading, Lawful}
use Rattle.measure.specs.Bounded.{longest}
use Rattle.measure.specs.Place.{line_ends, units, extent, place_reading, join_extents, place_measure}
use Rattle.measure.specs.declared.place_reading.Extent.{Extent}
use Rattle.measure.proofs.Bounded.{join_said}
use Rattle.measure.proofs.Measure.{reading_whole, lawful_whole}

abbrev extent_of : ℕ → ℕ → ℕ → Extent
extent_of l n u = record { length = l; lines = n; units = u }

pub line_ends_append : (xs ys : List ℕ) → line_ends (xs ++ ys) ≡ line_ends xs + line_ends ys
line_ends_append [] ys = omega arith
line_ends_append (b ∷ xs) ys = let more = line_ends_append xs ys in omega arith

pub units_append : (xs ys : List ℕ) → units (xs ++ ys) ≡ cond (eqb (line_ends ys) 0) (units xs + units ys) (units ys)
units_append [] ys = grind (arith, nat_tests)
units_append (b ∷ xs) ys =
    let more = units_append xs ys in
    let ends = line_ends_append xs ys in
    grind (arith, nat_tests)

pub line_ends_few : (xs : List ℕ) → line_ends xs ≤ length xs
line_ends_few [] = omega arith
line_ends_few (b ∷ xs) = let few = line_ends_few xs in grind (arith, nat_tests)

pub units_few : (xs : List ℕ) → units xs ≤ 2 * length xs
units_few [] = omega arith
units_few (b ∷ xs) = let few = units_few xs in grind (arith, nat_tests)

same_extent : {l l' n n' u u' : ℕ} → l ≡ l' → n ≡ n' → u ≡ u' → extent_of l n u ≡ extent_of l' n' u'
same_extent {l} {l'} {n} {n'} {u} {u'} e f g = ap (λ x. extent_of x n u) e ∙ ap (λ x. extent_of l' x u) f ∙ ap (extent_of l' n') g

-- Below the longest length no count comes to the cap.
join_texts : (xs ys : List ℕ) → length xs + length ys ≤ longest → join_extents (extent xs) (extent ys) ≡ extent (xs ++ ys)
join_texts xs ys h =
    let l = length-append xs ys in
    let n = line_ends_append xs ys in
    let u = units_append xs ys in
    let few = line_ends_few xs in
    let few' = line_ends_few ys in
    let low = units_few xs in
    let low' = units_few ys in
    same_extent (sym l) (omega arith) (grind (arith, nat_tests))

one_byte : (b : ℕ) → place_measure.single b ≡ place_reading (b ∷ [])
one_byte b = ap Some (same_extent refl (omega arith) (grind (arith, nat_tests)))

join_places : (xs ys : List ℕ) → place_measure.join (place_reading xs) (place_reading ys) ≡ place_reading (xs ++ ys)
join_places = join_said extent (λ p. p.length) join_extents (λ xs. refl) join_texts

pub place_is : (text : List ℕ) → reading place_measure text ≡ place_reading text
place_is = reading_whole place_measure place_reading refl one_byte join_places

pub place_lawful : Lawful place_measure
place_lawful = lawful_whole place_measure place_reading refl one_byte join_places
