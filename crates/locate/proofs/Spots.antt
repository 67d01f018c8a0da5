-- Where the search for a column stops: the last place on the line that is not past the column.
use Rattle.std.proofs.Common.{◌≡◌, ℕ, zero, suc, ◌+◌, ◌≤◌, true, false, ◌||◌, ltb, List, [], ◌∷◌, length, take, Some, None, Option, sym, refl, ap, ◌∙◌, subst, ⊎_elim, arith}
use Rattle.std.proofs.lemmas.Bool.{cases_Bool, cond-true, or_cases, or_parts, ltb-true, ltb-false}
use Rattle.measure.specs.Place.{ends_line, width, line_ends, units}
use Rattle.positions.proofs.Lines.{one_end, no_end, units_first, units_later}
use Rattle.positions.proofs.Spots.{spot_alone}
use Rattle.search.specs.Forwards.{stop, stop_or}
use Rattle.locate.specs.InLine.{lined, column_on, ColumnComesToSpot}
use Rattle.locate.specs.declared.lined.Lined.{Lined}
use Rattle.locate.proofs.Columns.{base, base_first, base_later, base_zero, counts_down, goes_on, adds}

-- The column behind a text that begins at column u of its line.
abbrev column_behind : ℕ → List ℕ → ℕ
column_behind u text = base u text + units text

-- Of the places of a text behind n line ends, in a line that has u units before it, q is the last that is not past the column.
record LastIn (column n u : ℕ) (text : List ℕ) (q : ℕ) : Type 0 where
  within : q ≤ length text
  on_line : line_ends (take q text) ≡ n
  not_past : column_behind u (take q text) ≤ column
  last : (p : ℕ) → p ≤ length text → line_ends (take p text) ≡ n → column_behind u (take p text) ≤ column → p ≤ q

behind_front : (u b : ℕ) (text : List ℕ) → line_ends (b ∷ text) ≡ 0 → column_behind u (b ∷ text) ≡ column_behind (u + width b) text
behind_front u b text e =
    ⊎_elim (λ t. let count = one_end b text t in absurd (omega arith))
    (λ t. let count = no_end b text t in
    let start = base_first u (b ∷ text) e in
    let more = units_first b text e in
    let here = base_first (u + width b) text (omega arith) in
    omega arith)
    (cases_Bool (ends_line b))

behind_end : (u b : ℕ) (text : List ℕ) → ends_line b ≡ true → column_behind u (b ∷ text) ≡ column_behind 0 text
behind_end u b text e =
    let count = one_end b text e in
    let start = base_later u (b ∷ text) (λ z. omega arith) in
    let more = units_later b text (λ z. omega arith) in
    let here = base_zero text in
    omega arith

behind_later : (u b : ℕ) (text : List ℕ) → ends_line b ≡ false → (line_ends text ≡ 0 → ⊥) → column_behind u (b ∷ text) ≡ column_behind u text
behind_later u b text e ne =
    let count = no_end b text e in
    let start = base_later u (b ∷ text) (λ z. ne (omega arith)) in
    let more = units_later b text (λ z. ne (omega arith)) in
    let here = base_later u text ne in
    omega arith

module _ (column : ℕ) where
  abbrev passed_from : Lined → Option Lined → List ℕ → ℕ
  passed_from w o text = (stop_or w o (λ x. stop (column_on column) x text)).passed

  -- A byte that ends the line, or leads past the column, is not passed.
  blocked : (u b : ℕ) (text : List ℕ) → (ends_line b || ltb column (u + width b)) ≡ true → (p : ℕ) → line_ends (take p (b ∷ text)) ≡ 0 → column_behind u (take p (b ∷ text)) ≤ column → p ≤ 0
  blocked u b text t zero e h = omega arith
  blocked u b text t (suc p) e h =
      ⊎_elim (λ ends. let count = one_end b (take p text) ends in absurd (omega arith))
      (λ past. let over = ltb-true column (u + width b) past in
      let start = base_first u (b ∷ take p text) e in
      let more = units_first b (take p text) e in
      absurd (omega arith))
      (or_cases (ends_line b) (ltb column (u + width b)) t)

  stays_before : (u b : ℕ) (text : List ℕ) → u ≤ column → (ends_line b || ltb column (u + width b)) ≡ true → LastIn column 0 u (b ∷ text) 0
  stays_before u b text low t = record { within = omega arith; on_line = refl; not_past = omega arith; last = λ p w e h. blocked u b text t p e h }

  halts : (u b : ℕ) (text : List ℕ) → (ends_line b || ltb column (u + width b)) ≡ true → passed_from (lined 0 u) (column_on column (lined 0 u) b) text ≡ 0
  halts u b text t = ap (λ o. passed_from (lined 0 u) o text) (cond-true (ends_line b || ltb column (u + width b)) None (Some (lined 0 (u + width b))) t)

  -- Over one byte: what counts as the line and the column of the places behind it.
  record Onwards (n m u v b : ℕ) (text : List ℕ) : Type 0 where
    lines : (p : ℕ) → line_ends (take p text) ≡ m → line_ends (b ∷ take p text) ≡ n
    back : (p : ℕ) → line_ends (b ∷ take p text) ≡ n → line_ends (take p text) ≡ m
    columns : (p : ℕ) → line_ends (b ∷ take p text) ≡ n → column_behind u (b ∷ take p text) ≡ column_behind v (take p text)

  last_behind : (n m u v b : ℕ) (text : List ℕ) (q : ℕ) → Onwards n m u v b text → LastIn column m v text q → (p : ℕ) → p ≤ length (b ∷ text) → line_ends (take p (b ∷ text)) ≡ n → column_behind u (take p (b ∷ text)) ≤ column → p ≤ suc q
  last_behind n m u v b text q on rest zero w e h = omega arith
  last_behind n m u v b text q on rest (suc p) w e h =
      let same = on.columns p e in
      let few = rest.last p (omega arith) (on.back p e) (omega arith) in
      omega arith

  one_further : (n m u v b : ℕ) (text : List ℕ) (q : ℕ) → Onwards n m u v b text → LastIn column m v text q → LastIn column n u (b ∷ text) (suc q)
  one_further n m u v b text q on rest =
      let here = on.lines q rest.on_line in
      let same = on.columns q here in
      record { within = omega (arith, rest.within); on_line = here; not_past = omega (arith, rest.not_past); last = last_behind n m u v b text q on rest }

  goes_further : (w x : Lined) (b : ℕ) (text : List ℕ) → column_on column w b ≡ Some x → passed_from w (column_on column w b) text ≡ suc (stop (column_on column) x text).passed
  goes_further w x b text e = ap (λ o. passed_from w o text) e ∙ omega arith

  stops_in : (text : List ℕ) (n u : ℕ) → n ≤ line_ends text → (n ≡ 0 → u ≤ column) → LastIn column n u text (stop (column_on column) (lined n u) text).passed
  stops_in [] n u h low =
      record { within = omega arith; on_line = omega arith; not_past = let fits = low (omega arith) in omega arith; last = λ p w e f. omega arith }
  stops_in (b ∷ text) zero u h low =
      ⊎_elim (λ t. subst (LastIn column 0 u (b ∷ text)) (sym (halts u b text t)) (stays_before u b text (low refl) t))
      (λ f. let parts = or_parts (ends_line b) (ltb column (u + width b)) f in
      let fits = ltb-false column (u + width b) parts.1 in
      let on : Onwards 0 0 u (u + width b) b text = record {
        lines = λ p e. no_end b (take p text) parts.0 ∙ e;
        back = λ p e. sym (no_end b (take p text) parts.0) ∙ e;
        columns = λ p e. behind_front u b (take p text) e;
      } in
      subst (LastIn column 0 u (b ∷ text)) (sym (goes_further (lined 0 u) (lined 0 (u + width b)) b text (adds column u b parts.0 fits)))
      (one_further 0 0 u (u + width b) b text _ on (stops_in text 0 (u + width b) (omega arith) (λ z. fits))))
      (cases_Bool (ends_line b || ltb column (u + width b)))
  stops_in (b ∷ text) (suc k) u h low =
      ⊎_elim
      (λ t. let on : Onwards (suc k) k u 0 b text = record {
        lines = λ p e. one_end b (take p text) t ∙ ap suc e;
        back = λ p e. let count = one_end b (take p text) t in omega arith;
        columns = λ p e. behind_end u b (take p text) t;
      } in
      let count = one_end b text t in
      subst (LastIn column (suc k) u (b ∷ text)) (sym (goes_further (lined (suc k) u) (lined k 0) b text (counts_down column k u b t)))
      (one_further (suc k) k u 0 b text _ on (stops_in text k 0 (omega arith) (λ z. omega arith))))
      (λ f. let on : Onwards (suc k) (suc k) u u b text = record {
        lines = λ p e. no_end b (take p text) f ∙ e;
        back = λ p e. sym (no_end b (take p text) f) ∙ e;
        columns = λ p e. behind_later u b (take p text) f (λ z. let count = no_end b (take p text) f in omega arith);
      } in
      let count = no_end b text f in
      subst (LastIn column (suc k) u (b ∷ text)) (sym (goes_further (lined (suc k) u) (lined (suc k) u) b text (goes_on column k u b f)))
      (one_further (suc k) (suc k) u u b text _ on (stops_in text (suc k) u (omega arith) (λ z. absurd (omega arith)))))
      (cases_Bool (ends_line b))

pub column_comes_to_spot : ColumnComesToSpot
column_comes_to_spot text line column h =
    let q = (stop (column_on column) (lined line 0) text).passed in
    let found = stops_in column text line 0 h (λ z. omega arith) in
    sym (spot_alone text line column q (record {
      within = found.within;
      on_line = found.on_line;
      not_past = omega (arith, found.not_past, base_zero (take q text));
      last = λ p w e f. found.last p w e (omega (arith, base_zero (take p text)));
    }))
