-- Going to a column of a line over a whole text.
use Rattle.std.proofs.Common.{◌≡◌, ℕ, zero, suc, ◌+◌, ◌-◌, ◌<◌, ◌≤◌, true, false, cond, eqb, List, [], ◌∷◌, length, Some, Option, sym, refl, ap, ◌∙◌, ⊎_elim, arith}
use Rattle.std.proofs.lemmas.Bool.Decides.{nat_tests}
use Rattle.std.proofs.lemmas.Bool.{cases_Bool, cases_lt, cond-true, cond-false, cond_both, eq-eqb, ne_eqb}
use Rattle.measure.specs.Bounded.{longest}
use Rattle.measure.specs.Measure.{reading}
use Rattle.measure.specs.Place.{ends_line, width, line_ends, units, extent, place_measure}
use Rattle.measure.proofs.Bounded.{bounded_within, bounded_over}
use Rattle.measure.proofs.Place.{place_is}
use Rattle.measure.specs.declared.place_reading.Extent.{Extent}
use Rattle.positions.proofs.Lines.{one_end, no_end, units_first, units_later}
use Rattle.search.specs.Forwards.{then, through}
use Rattle.locate.specs.Carried.{carried}
use Rattle.locate.specs.InLine.{lined, column_on}
use Rattle.locate.specs.declared.lined.Lined.{Lined}

-- The units with which the last line of a text begins: those so far, unless a line ended.
abbrev pub base : ℕ → List ℕ → ℕ
base u text = carried u (line_ends text)

same_lined : {x y u v : ℕ} → x ≡ y → u ≡ v → ◌≡◌ {A = Option Lined} (Some (lined x u)) (Some (lined y v))
same_lined {y} {u} e f = ap (λ n. Some (lined n u)) e ∙ ap (λ n. Some (lined y n)) f

pub base_first : (u : ℕ) (text : List ℕ) → line_ends text ≡ 0 → base u text ≡ u
base_first u text e = cond-true (eqb (line_ends text) 0) u 0 (eq-eqb (line_ends text) 0 e)

pub base_later : (u : ℕ) (text : List ℕ) → (line_ends text ≡ 0 → ⊥) → base u text ≡ 0
base_later u text e = cond-false (eqb (line_ends text) 0) u 0 (ne_eqb (line_ends text) 0 e)

pub base_zero : (text : List ℕ) → base 0 text ≡ 0
base_zero text = cond_both (eqb (line_ends text) 0) 0 0 (λ z. z ≡ 0) (λ e. refl) (λ e. refl)

module _ (column : ℕ) where
  -- One byte, by what it is.
  before_line : (n u b : ℕ) → column_on column (lined (suc n) u) b ≡ cond (ends_line b) (Some (lined (suc n - 1) 0)) (Some (lined (suc n) u))
  before_line n u b = cond-false (eqb (suc n) 0) _ (cond (ends_line b) (Some (lined (suc n - 1) 0)) (Some (lined (suc n) u))) (ne_eqb (suc n) 0 (λ e. omega arith))

  pub counts_down : (n u b : ℕ) → ends_line b ≡ true → column_on column (lined (suc n) u) b ≡ Some (lined n 0)
  counts_down n u b e =
      let less : suc n - 1 ≡ n = omega arith in
      before_line n u b ∙ cond-true (ends_line b) (Some (lined (suc n - 1) 0)) (Some (lined (suc n) u)) e ∙ ap (λ k. Some (lined k 0)) less

  pub goes_on : (n u b : ℕ) → ends_line b ≡ false → column_on column (lined (suc n) u) b ≡ Some (lined (suc n) u)
  goes_on n u b e = before_line n u b ∙ cond-false (ends_line b) (Some (lined (suc n - 1) 0)) (Some (lined (suc n) u)) e

  pub adds : (u b : ℕ) → ends_line b ≡ false → u + width b ≤ column → column_on column (lined 0 u) b ≡ Some (lined 0 (u + width b))
  adds u b e h = grind (arith, nat_tests)

  abbrev over : Option Lined → List ℕ → Option Lined
  over o text = then o (λ x. through (column_on column) x text)

  -- The line lies behind the text.
  pub passes_lines : (text : List ℕ) (n u : ℕ) → line_ends text < n → through (column_on column) (lined n u) text ≡ Some (lined (n - line_ends text) (base u text))
  passes_lines [] n u h = same_lined (omega arith) refl
  passes_lines (b ∷ text) zero u h = absurd (omega arith)
  passes_lines (b ∷ text) (suc k) u h =
      ⊎_elim
      (λ e. let count = one_end b text e in
      ap (λ o. over o text) (counts_down k u b e) ∙ passes_lines text k 0 (omega arith) ∙ same_lined (omega arith) (base_zero text ∙ sym (base_later u (b ∷ text) (λ z. omega arith))))
      (λ e. let count = no_end b text e in
      ap (λ o. over o text) (goes_on k u b e) ∙ passes_lines text (suc k) u (omega arith) ∙ same_lined (omega arith) (ap (λ z. cond (eqb z 0) u 0) (sym count)))
      (cases_Bool (ends_line b))

  -- The column lies behind the text.
  pub passes_units : (text : List ℕ) (n u : ℕ) → line_ends text ≡ n → base u text + units text ≤ column → through (column_on column) (lined n u) text ≡ Some (lined 0 (base u text + units text))
  passes_units [] n u e h = same_lined (sym e) (omega arith)
  passes_units (b ∷ text) zero u e h =
      let start = base_first u (b ∷ text) e in
      let more = units_first b text e in
      ⊎_elim (λ t. let count = one_end b text t in absurd (omega arith))
      (λ t. let count = no_end b text t in
      let here = base_first (u + width b) text (omega arith) in
      ap (λ o. over o text) (adds u b t (omega arith)) ∙ passes_units text 0 (u + width b) (omega arith) (omega arith) ∙ same_lined refl (omega arith))
      (cases_Bool (ends_line b))
  passes_units (b ∷ text) (suc k) u e h =
      let start = base_later u (b ∷ text) (λ z. omega arith) in
      let more = units_later b text (λ z. omega arith) in
      ⊎_elim
      (λ t. let count = one_end b text t in
      let here = base_zero text in
      ap (λ o. over o text) (counts_down k u b t) ∙ passes_units text k 0 (omega arith) (omega arith) ∙ same_lined refl (omega arith))
      (λ t. let count = no_end b text t in
      let here = base_later u text (λ z. omega arith) in
      ap (λ o. over o text) (goes_on k u b t) ∙ passes_units text (suc k) u (omega arith) (omega arith) ∙ same_lined refl (omega arith))
      (cases_Bool (ends_line b))

-- A reading that is not overlong tells the line ends, the units and the length of its text.
pub told : (text : List ℕ) (x : Extent) → reading place_measure text ≡ Some x → (x.lines ≡ line_ends text) × (x.units ≡ units text) × (x.length ≡ length text)
told text x e =
    let is = place_is text in
    ⊎_elim (λ h. let over = bounded_over extent text h in absurd (cc))
    (λ h. let within = bounded_within extent text h in
    let same : x ≡ extent text = cc in
    (ap (λ (y : Extent). y.lines) same, ap (λ (y : Extent). y.units) same, ap (λ (y : Extent). y.length) same))
    (cases_lt longest (length text))

-- A text whose reading tells that the line or the column lies behind it is passed.
module _ (column : ℕ) (text : List ℕ) (x : Extent) (is : reading place_measure text ≡ Some x) (at : Lined) (start : ℕ) (carries : start ≡ carried at.units x.lines) where
  begins : start ≡ base at.units text
  begins = carries ∙ ap (carried at.units) (told text x is).0

  pub over_lines : x.lines < at.lines → through (column_on column) at text ≡ Some (lined (at.lines - x.lines) start)
  over_lines h = let lines = (told text x is).0 in passes_lines column text at.lines at.units (omega arith) ∙ same_lined (omega arith) (sym begins)

  pub over_units : x.lines ≡ at.lines → start + x.units ≤ column → through (column_on column) at text ≡ Some (lined 0 (start + x.units))
  over_units e h = let all = told text x is in let from = begins in passes_units column text at.lines at.units (omega arith) (omega arith) ∙ same_lined refl (omega arith)
