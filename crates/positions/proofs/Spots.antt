-- The spot of a line and a column, and that it undoes a position.
use Rattle.std.proofs.Common.{◌≡◌, ℕ, ◌+◌, ◌≤◌, true, eqb, leb, List, length, Some, None, Option, unwrap_or, refl, sym, ap, ◌∙◌, ⊎_elim, arith}
use Rattle.std.proofs.lemmas.Bool.{and_parts, and_from, both_ways, cases_Bool, cases_lt, eqb-true, leb-true, eq-eqb, le-leb}
use Rattle.positions.specs.Position.{line_of, column_of, in_line, spot}
use Rattle.positions.specs.Laws.{LastOnLine, SpotIsLargest, SpotUndoesPosition}
use Rattle.search.specs.Places.{greatest}
use Rattle.search.proofs.Places.{Highest, greatest_is, greatest_found, greatest_missed}
use Rattle.positions.proofs.Lines.{line_begins, positions_ascend}

module _ (text : List ℕ) (line column : ℕ) where
  passes : (p : ℕ) → line_of text p ≡ line → column_of text p ≤ column → in_line text line column p ≡ true
  passes p e h = and_from (eqb (line_of text p) line) (leb (column_of text p) column) (eq-eqb (line_of text p) line e) (le-leb (column_of text p) column h)

  passed : (p : ℕ) → in_line text line column p ≡ true → (line_of text p ≡ line) × (column_of text p ≤ column)
  passed p e =
      let both = and_parts (eqb (line_of text p) line) (leb (column_of text p) column) e in
      (eqb-true (line_of text p) line both.0, leb-true (column_of text p) column both.1)

  told : (q : ℕ) → Highest (in_line text line column) (length text + 1) q → LastOnLine text line column q
  told q g =
      let here = passed q g.right in
      record {
        within = omega (arith, g.below);
        on_line = here.0;
        not_past = here.1;
        last = λ p w e h. ⊎_elim (λ l. absurd (both_ways (in_line text line column p) (g.last p l (omega arith)) (passes p e h))) (λ l. l) (cases_lt q p);
      }

  -- What is told of the spot of a line and a column is told of no other place.
  pub spot_alone : (q : ℕ) → LastOnLine text line column q → spot text line column ≡ q
  spot_alone q l =
      ap (λ o. unwrap_or o 0)
      (greatest_is (in_line text line column) (length text + 1) q
      (record {
        below = omega (arith, l.within);
        right = passes q l.on_line l.not_past;
        last = λ p above w. ⊎_elim (λ t. let here = passed p t in absurd (omega (arith, l.last p (omega arith) here.0 here.1))) (λ f. f) (cases_Bool (in_line text line column p));
      }))

  pub spot_there : (p : ℕ) → p ≤ length text → line_of text p ≡ line → column_of text p ≤ column → LastOnLine text line column (spot text line column)
  spot_there p w e h = by (greatest (in_line text line column) (length text + 1)) refl
    where
      by : (o : Option ℕ) → greatest (in_line text line column) (length text + 1) ≡ o → LastOnLine text line column (unwrap_or o 0)
      by None none = absurd (both_ways (in_line text line column p) (greatest_missed (in_line text line column) (length text + 1) none p (omega arith)) (passes p e h))
      by (Some q) some = told q (greatest_found (in_line text line column) (length text + 1) q some)

pub spot_is_largest : SpotIsLargest
spot_is_largest text line column h =
    let first = line_begins text line h in
    let begins = first.1 in
    spot_there text line column first.0 begins.within begins.on_line (omega (arith, begins.at_front))

pub spot_undoes_position : SpotUndoesPosition
spot_undoes_position text p w =
    let line = line_of text p in
    let column = column_of text p in
    let q = spot text line column in
    let found = spot_there text line column p w refl (omega arith) in
    let behind = found.last p w refl (omega arith) in
    let up = positions_ascend text p q behind found.within in
    let back = up.columns (sym found.on_line) in
    let same : column_of text q ≡ column = omega (arith, back, found.not_past) in
    record {
      within = found.within;
      not_before = behind;
      same = ap (λ n. (n, column_of text q)) found.on_line ∙ ap (λ n. (line, n)) same;
      last = λ r v e. let columns : column_of text r ≡ column = ap (λ (x : ℕ × ℕ). x.1) e in found.last r v (ap (λ (x : ℕ × ℕ). x.0) e) (omega (arith, columns));
    }
