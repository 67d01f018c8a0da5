-- Counting to a place, byte by byte and over a whole text.
use Rattle.std.proofs.Common.{◌≡◌, ℕ, zero, suc, ◌+◌, ◌-◌, ◌≤◌, ◌⊎◌, true, false, eqb, List, [], ◌∷◌, ◌++◌, length, take, drop, Some, None, Option, sym, refl, ap, ◌∙◌, ⊎_elim, inl, inr, arith, length-drop, length-take}
use Rattle.std.proofs.lemmas.List.{take-append-drop, length-take-le}
use Rattle.std.proofs.lemmas.Bool.{cases_Bool, cases_eq, cases_lt, cond-true, cond-false, ne_eqb}
use Rattle.measure.specs.Bounded.{longest, capped}
use Rattle.measure.specs.Place.{ends_line, width, line_ends, units, place_measure}
use Rattle.measure.proofs.Place.{line_ends_few, units_few}
use Rattle.positions.proofs.Lines.{one_end, no_end, units_first, units_later}
use Rattle.search.specs.declared.stop.Stop.{Stop}
use Rattle.search.specs.Forwards.{then, through, stop, after}
use Rattle.search.proofs.Forwards.{stop_append, stop_through}
use Rattle.locate.specs.AtPlace.{placed, counted, place_on, CountComesToPosition}
use Rattle.locate.specs.declared.placed.Placed.{Placed}
use Rattle.locate.specs.Carried.{carried}
use Rattle.locate.proofs.Columns.{base, base_first, base_later, base_zero, told}
use Rattle.measure.specs.Measure.{reading}
use Rattle.measure.specs.declared.place_reading.Extent.{Extent}

-- The largest count.
abbrev most : ℕ
most = 4294967295

pub same_placed : {x y i j u v : ℕ} → x ≡ y → i ≡ j → u ≡ v → ◌≡◌ {A = Option Placed} (Some (placed x i u)) (Some (placed y j v))
same_placed {y} {i} {j} {u} e f g = ap (λ n. Some (placed n i u)) e ∙ ap (λ n. Some (placed y n u)) f ∙ ap (λ n. Some (placed y j n)) g

goes : (n l u b : ℕ) → place_on (placed (suc n) l u) b ≡ Some (counted (placed (suc n) l u) b)
goes n l u b = cond-false (eqb (suc n) 0) None (Some (counted (placed (suc n) l u) b)) (ne_eqb (suc n) 0 (λ e. omega arith))

over_end : (n l u b : ℕ) → ends_line b ≡ true → place_on (placed (suc n) l u) b ≡ Some (placed n (capped (l + 1)) 0)
over_end n l u b e = goes n l u b ∙ ap Some (cond-true (ends_line b) _ _ e) ∙ same_placed (omega arith) refl refl

over_other : (n l u b : ℕ) → ends_line b ≡ false → place_on (placed (suc n) l u) b ≡ Some (placed n l (capped (u + width b)))
over_other n l u b e = goes n l u b ∙ ap Some (cond-false (ends_line b) _ _ e) ∙ same_placed (omega arith) refl refl

abbrev over : Option Placed → List ℕ → Option Placed
over o text = then o (λ x. through place_on x text)

units_further : (u b : ℕ) (text : List ℕ) → ends_line b ≡ false → capped (base (capped (u + width b)) text + units text) ≡ capped (base u (b ∷ text) + units (b ∷ text))
units_further u b text e =
    let count = no_end b text e in
    ⊎_elim
    (λ z. let start = base_first u (b ∷ text) (omega arith) in
    let more = units_first b text (omega arith) in
    let here = base_first (capped (u + width b)) text z in
    omega arith)
    (λ ne. let start = base_later u (b ∷ text) (λ z. ne (omega arith)) in
    let more = units_later b text (λ z. ne (omega arith)) in
    let here = base_later (capped (u + width b)) text ne in
    omega arith)
    (cases_eq (line_ends text) 0)

-- A text that ends before the place is counted.
pub counts_through : (text : List ℕ) (n l u : ℕ) → length text ≤ n → l ≤ most → u ≤ most → through place_on (placed n l u) text ≡ Some (placed (n - length text) (capped (l + line_ends text)) (capped (base u text + units text)))
counts_through [] n l u h i j = same_placed (omega arith) (omega arith) (omega arith)
counts_through (b ∷ text) zero l u h i j = absurd (omega arith)
counts_through (b ∷ text) (suc n) l u h i j =
    ⊎_elim
    (λ e. let count = one_end b text e in
    let later = units_later b text (λ z. omega arith) in
    let start = base_later u (b ∷ text) (λ z. omega arith) in
    let here = base_zero text in
    ap (λ o. over o text) (over_end n l u b e) ∙ counts_through text n (capped (l + 1)) 0 (omega arith) (omega arith) (omega arith)
    ∙ same_placed (omega arith) (omega arith) (omega arith))
    (λ e. let count = no_end b text e in
    ap (λ o. over o text) (over_other n l u b e) ∙ counts_through text n l (capped (u + width b)) (omega arith) (omega arith) (omega arith)
    ∙ same_placed (omega arith) (omega arith) (units_further u b text e))
    (cases_Bool (ends_line b))

-- The same by the text's reading.
pub over_counted : (text : List ℕ) (x : Extent) → reading place_measure text ≡ Some x → (at : Placed) (start left lines count : ℕ) → start ≡ carried at.units x.lines → x.length ≤ at.left → at.lines ≤ most → at.units ≤ most →
    left ≡ at.left - x.length → lines ≡ capped (at.lines + x.lines) → count ≡ capped (start + x.units) → through place_on at text ≡ Some (placed left lines count)
over_counted text x is at start left lines count carries short i j left-is lines-is count-is =
    let all = told text x is in
    let begins = carries ∙ ap (carried at.units) all.0 in
    counts_through text at.left at.lines at.units (omega arith) i j ∙ same_placed (omega arith) (omega arith) (omega arith)

-- Where no byte is left to the place, or none of the text, the search stays.
stays : (n l u : ℕ) (text : List ℕ) → (n ≡ 0) ⊎ (length text ≡ 0) → (stop place_on (placed n l u) text).at ≡ placed n l u
stays n l u [] h = refl
stays zero l u (b ∷ text) h = refl
stays (suc n) l u (b ∷ text) h = let none : ⊥ = ⊎_elim (λ e. omega arith) (λ e. omega arith) h in absurd none

-- A search over a text whose front it runs through, and behind which it stays.
stops_behind_front : (front rest : List ℕ) (n left lines count : ℕ) → through place_on (placed n 0 0) front ≡ Some (placed left lines count) → (left ≡ 0) ⊎ (length rest ≡ 0) → (stop place_on (placed n 0 0) (front ++ rest)).at ≡ placed left lines count
stops_behind_front front rest n left lines count e ends =
    ap (λ (s : Stop Placed). s.at) (stop_append place_on (placed n 0 0) front rest)
    ∙ ap (λ (s : Stop Placed). (after s (λ x. stop place_on x rest)).at) (stop_through place_on (placed n 0 0) front (placed left lines count) e)
    ∙ stays left lines count rest ends

-- What is counted up to a place.
reached : (place : ℕ) (text : List ℕ) → (stop place_on (placed place 0 0) text).at ≡ placed (place - length (take place text)) (capped (0 + line_ends (take place text))) (capped (base 0 (take place text) + units (take place text)))
reached place text =
    let front = take place text in
    let rest = drop place text in
    let left = place - length front in
    let lines = capped (0 + line_ends front) in
    let count = capped (base 0 front + units front) in
    let ends : (left ≡ 0) ⊎ (length rest ≡ 0) =
    ⊎_elim (λ h. inl (omega (arith, length-take-le place text (omega arith)))) (λ h. inr (omega (arith, length-drop place text))) (cases_lt place (length text)) in
    let through_front = counts_through front place 0 0 (omega (arith, length-take place text)) (omega arith) (omega arith) in
    ap (λ l. (stop place_on (placed place 0 0) l).at) (sym (take-append-drop place text)) ∙ stops_behind_front front rest place left lines count through_front ends

-- No count of a text of which readings tell comes to the largest.
uncapped : (front : List ℕ) → length front ≤ longest → (capped (0 + line_ends front) ≡ line_ends front) × (capped (base 0 front + units front) ≡ units front)
uncapped front short = (omega (arith, line_ends_few front), omega (arith, base_zero front, units_few front))

pub count_comes_to_position : CountComesToPosition
count_comes_to_position place text short =
    let front = take place text in
    let same = uncapped front (omega (arith, length-take place text)) in
    ap (λ (w : Placed). (w.lines, w.units)) (reached place text) ∙ ap (λ n. (n, capped (base 0 front + units front))) same.0 ∙ ap (λ n. (line_ends front, n)) same.1
