-- Line ends and units, one byte more at the front, and one text behind another.
use Rattle.std.proofs.Common.{◌≡◌, ℕ, zero, suc, ◌+◌, ◌≤◌, true, false, cond, eqb, List, [], ◌∷◌, ◌++◌, length, take, drop, sym, refl, ap, ◌∙◌, ⊎_elim, arith}
use Rattle.std.proofs.lemmas.List.{take-append-drop, take-take}
use Rattle.std.proofs.lemmas.Bool.{cases_Bool, cond-true, cond-false, eq-eqb, ne_eqb}
use Rattle.measure.specs.Place.{ends_line, width, line_ends, units}
use Rattle.measure.proofs.Place.{line_ends_append, units_append}
use Rattle.positions.specs.Position.{line_of, column_of}
use Rattle.positions.specs.Laws.{PositionsAscend}

-- A byte that ends a line counts one line end, any other none.
pub one_end : (b : ℕ) (text : List ℕ) → ends_line b ≡ true → line_ends (b ∷ text) ≡ suc (line_ends text)
one_end b text e = ap (λ z. cond z 1 0 + line_ends text) e ∙ omega arith

pub no_end : (b : ℕ) (text : List ℕ) → ends_line b ≡ false → line_ends (b ∷ text) ≡ line_ends text
no_end b text e = ap (λ z. cond z 1 0 + line_ends text) e ∙ omega arith

-- A byte's units count if no line ends at it or behind it.
pub units_first : (b : ℕ) (text : List ℕ) → line_ends (b ∷ text) ≡ 0 → units (b ∷ text) ≡ width b + units text
units_first b text e = ap (λ z. z + units text) (cond-true (eqb (line_ends (b ∷ text)) 0) (width b) 0 (eq-eqb (line_ends (b ∷ text)) 0 e))

pub units_later : (b : ℕ) (text : List ℕ) → (line_ends (b ∷ text) ≡ 0 → ⊥) → units (b ∷ text) ≡ units text
units_later b text e = ap (λ z. z + units text) (cond-false (eqb (line_ends (b ∷ text)) 0) (width b) 0 (ne_eqb (line_ends (b ∷ text)) 0 e)) ∙ omega arith

pub units_joined : (xs ys : List ℕ) → line_ends ys ≡ 0 → units (xs ++ ys) ≡ units xs + units ys
units_joined xs ys e = units_append xs ys ∙ cond-true (eqb (line_ends ys) 0) (units xs + units ys) (units ys) (eq-eqb (line_ends ys) 0 e)

pub units_cut : (xs ys : List ℕ) → (line_ends ys ≡ 0 → ⊥) → units (xs ++ ys) ≡ units ys
units_cut xs ys e = units_append xs ys ∙ cond-false (eqb (line_ends ys) 0) (units xs + units ys) (units ys) (ne_eqb (line_ends ys) 0 e)

take_further : (p q : ℕ) (text : List ℕ) → p ≤ q → take q text ≡ take p text ++ drop p (take q text)
take_further p q text h = sym (take-append-drop p (take q text)) ∙ ap (λ l. l ++ drop p (take q text)) (take-take p q text h)

pub positions_ascend : PositionsAscend
positions_ascend text p q h w =
    let more = drop p (take q text) in
    let lines : line_of text q ≡ line_of text p + line_ends more = ap line_ends (take_further p q text h) ∙ line_ends_append (take p text) more in
    record {
      lines = omega (arith, lines);
      columns = λ e.
          let none : line_ends more ≡ 0 = omega (arith, lines, e) in
          let same : column_of text q ≡ column_of text p + units more = ap units (take_further p q text h) ∙ units_joined (take p text) more none in
          omega (arith, same);
    }

-- Each line of a text has a first place, at column 0.
pub record Begins (text : List ℕ) (line p : ℕ) : Type 0 where
  pub within : p ≤ length text
  pub on_line : line_of text p ≡ line
  pub at_front : column_of text p ≡ 0

pub line_begins : (text : List ℕ) (line : ℕ) → line ≤ line_ends text → (p : ℕ) × Begins text line p
line_begins text zero h = (0, record { within = omega arith; on_line = refl; at_front = refl })
line_begins [] (suc k) h = absurd (omega arith)
line_begins (b ∷ text) (suc k) h =
    ⊎_elim
    (λ e. let count = one_end b text e in
    let rest = line_begins text k (omega arith) in
    let p = rest.0 in
    let here = one_end b (take p text) e in
    let far = rest.1 in
    let later = units_later b (take p text) (λ z. omega arith) in
    (suc p, record { within = omega (arith, far.within); on_line = omega (arith, here, far.on_line); at_front = later ∙ far.at_front }))
    (λ e. let count = no_end b text e in
    let rest = line_begins text (suc k) (omega arith) in
    let p = rest.0 in
    let here = no_end b (take p text) e in
    let far = rest.1 in
    let later = units_later b (take p text) (λ z. omega (arith, far.on_line)) in
    (suc p, record { within = omega (arith, far.within); on_line = omega (arith, here, far.on_line); at_front = later ∙ far.at_front }))
    (cases_Bool (ends_line b))
