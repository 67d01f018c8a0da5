-- Line ends and units of a text in UTF-8, character by character.
use Rattle.std.proofs.Common.{◌≡◌, ℕ, ◌+◌, cond, eqb, List, [], ◌∷◌, ◌++◌, length, take, drop, sym, refl, ap, ◌∙◌, ⊎_elim, arith, flat_map, length-append}
use Rattle.std.proofs.Math.Utf8.{encode, encodes}
use Rattle.std.proofs.lemmas.List.{take-append-drop, take_at}
use Rattle.std.proofs.lemmas.List.Recursion.{is_count_by}
use Rattle.std.proofs.lemmas.Str.{encodes-append}
use Rattle.std.proofs.lemmas.Bool.{cases_eq, cond-true, cond-false, eq-eqb, ne_eqb}
use Rattle.std.proofs.lemmas.Bool.Decides.{nat_tests}
use Rattle.std.specs.Char.Escape.{encode_utf16}
use Rattle.measure.specs.Place.{line_ends, units}
use Rattle.measure.proofs.Place.{line_ends_append}
use Rattle.positions.specs.Utf16.{line_feeds, last_line, code_units}
use Rattle.positions.specs.Laws.{ColumnsAreUtf16}
use Rattle.positions.proofs.Lines.{units_joined, units_cut}

one_feed : (c : ℕ) → line_ends (encode c) ≡ cond (eqb c 10) 1 0
unfolding encode
one_feed c = grind (arith, nat_tests)

one_width : (c : ℕ) → units (encode c) ≡ cond (eqb c 10) 0 (length (encode_utf16 c))
unfolding encode
one_width c = grind (arith, nat_tests)

one_more : (c : ℕ) (cs : List ℕ) → line_ends (encodes (c ∷ cs)) ≡ cond (eqb c 10) 1 0 + line_ends (encodes cs)
one_more c cs = line_ends_append (encode c) (encodes cs) ∙ ap (λ n. n + line_ends (encodes cs)) (one_feed c)

feeds : (cs : List ℕ) → line_ends (encodes cs) ≡ line_feeds cs
feeds cs = is_count_by (λ l. line_ends (encodes l)) (λ c. eqb c 10) refl (λ c l. let more = one_more c l in grind (arith, nat_tests)) cs

units_more : (c : ℕ) (cs : List ℕ) → code_units (c ∷ cs) ≡ length (encode_utf16 c) + code_units cs
units_more c cs = length-append (encode_utf16 c) (flat_map encode_utf16 cs)

-- A text without a line feed is one line.
whole_line : (cs : List ℕ) → line_feeds cs ≡ 0 → last_line cs ≡ cs
whole_line [] e = refl
whole_line (c ∷ cs) e = cond-true (eqb (line_feeds (c ∷ cs)) 0) (c ∷ cs) (last_line cs) (eq-eqb (line_feeds (c ∷ cs)) 0 e)

line_units : (cs : List ℕ) → units (encodes cs) ≡ code_units (last_line cs)
line_units [] = refl
line_units (c ∷ cs) =
    let rest = line_units cs in
    let count = feeds cs in
    let here = one_feed c in
    let all = sym (feeds (c ∷ cs)) ∙ one_more c cs in
    ⊎_elim
    (λ e. let none : line_feeds cs ≡ 0 = omega arith in
    let other : c ≡ 10 → ⊥ = λ z. let feed : ◌≡◌ {A = ℕ} (cond (eqb c 10) 1 0) 1 = cond-true (eqb c 10) 1 0 (eq-eqb c 10 z) in omega (arith, all, e) in
    let width = one_width c ∙ cond-false (eqb c 10) 0 (length (encode_utf16 c)) (ne_eqb c 10 other) in
    let same = ap code_units (whole_line cs none) in
    units_joined (encode c) (encodes cs) (omega arith) ∙ omega (arith, width, rest, same, units_more c cs) ∙ sym (ap code_units (whole_line (c ∷ cs) e)))
    (λ ne. let cut = ap code_units (cond-false (eqb (line_feeds (c ∷ cs)) 0) (c ∷ cs) (last_line cs) (ne_eqb (line_feeds (c ∷ cs)) 0 ne)) in
    let joined : units (encode c ++ encodes cs) ≡ units (encodes cs) =
    ⊎_elim
    (λ z. let feed : c ≡ 10 = ⊎_elim (λ f. f) (λ g. let plain : ◌≡◌ {A = ℕ} (cond (eqb c 10) 1 0) 0 = cond-false (eqb c 10) 1 0 (ne_eqb c 10 g) in absurd (ne (omega (arith, all, plain)))) (cases_eq c 10) in
    let width = one_width c ∙ cond-true (eqb c 10) 0 (length (encode_utf16 c)) (eq-eqb c 10 feed) in
    units_joined (encode c) (encodes cs) z ∙ omega (arith, width))
    (λ more. units_cut (encode c) (encodes cs) more)
    (cases_eq (line_ends (encodes cs)) 0) in
    joined ∙ rest ∙ sym cut)
    (cases_eq (line_feeds (c ∷ cs)) 0)

-- The text before a place behind whole characters is these characters' text.
before : (cs : List ℕ) (i : ℕ) → take (length (encodes (take i cs))) (encodes cs) ≡ encodes (take i cs)
before cs i =
    let front = encodes (take i cs) in
    ap (λ l. take (length front) (encodes l)) (sym (take-append-drop i cs)) ∙ ap (take (length front)) (encodes-append (take i cs) (drop i cs)) ∙ take_at front (encodes (drop i cs)) (length front) refl

pub columns_are_utf16 : ColumnsAreUtf16
columns_are_utf16 cs i s h =
    let whole = ap length (sym (encodes-append (take i cs) (drop i cs)) ∙ ap encodes (take-append-drop i cs)) in
    record {
      within = omega (arith, whole, length-append (encodes (take i cs)) (encodes (drop i cs)));
      line = ap line_ends (before cs i) ∙ feeds (take i cs);
      column = ap units (before cs i) ∙ line_units (take i cs);
    }
