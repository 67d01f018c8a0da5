-- Brackets counted from the start of a text: how many openings and closings lie before a place, and what they say of level places.
use Rattle.std.proofs.Common.{◌≡◌, ℕ, ◌+◌, ◌-◌, ◌<◌, ◌≤◌, true, false, List, [], ◌∷◌, ◌++◌, length, get_or, take, drop, ltb, refl, sym, ap, ◌∙◌, ⊎_elim, arith}
use Rattle.std.proofs.lemmas.List.{take_all, take_more}
use Rattle.std.proofs.lemmas.Bool.{cases_lt, cond-true, cond-false, lt-ltb, le-ltb, eqb-true, eqb-false, eq-eqb, ne_eqb}
use Rattle.std.proofs.Math.Seq.{take-add}
use Rattle.automaton.specs.Automaton.{Automaton}
use Rattle.automaton.specs.Bracket.{role}
use Rattle.automaton.specs.Walk.{walk}
use Rattle.automaton.specs.declared.role.BracketKind.{BracketKind}
use Rattle.automaton.specs.declared.role.Role.{Role}
use Rattle.automaton.specs.declared.role.Role.TheVariants.{Plain}
use Rattle.measure.specs.Unmatched.{opens, closes, openings_in, closings_in}
use Rattle.measure.proofs.Unmatched.{openings_append, closings_append}
use Rattle.brackets.specs.Partner.{role_at, openings, closings, level}

module _ (a : Automaton) (text : List ℕ) where
  abbrev pub opened : ℕ → ℕ
  opened n = openings_in a 0 (take n text)

  abbrev pub closed : ℕ → ℕ
  closed n = closings_in a 0 (take n text)

  pub role_here : (n : ℕ) → n < length text → role_at a text n ≡ role a (walk a 0 (take n text)) (get_or text n 0)
  role_here n h = cond-true (ltb n (length text)) (role a (walk a 0 (take n text)) (get_or text n 0)) Plain (lt-ltb n (length text) h)

  pub role_outside : (n : ℕ) → length text ≤ n → role_at a text n ≡ Plain
  role_outside n h = cond-false (ltb n (length text)) (role a (walk a 0 (take n text)) (get_or text n 0)) Plain (le-ltb n (length text) h)

  ends : (n : ℕ) → length text ≤ n → take (n + 1) text ≡ take n text
  ends n h = take_all (n + 1) text (omega arith) ∙ sym (take_all n text h)

  -- What is counted by the roles of bytes, one byte further.
  counted_more : (count : List ℕ → ℕ) (by : Role BracketKind → ℕ) → ((front : List ℕ) (b : ℕ) → count (front ++ (b ∷ [])) ≡ count front + by (role a (walk a 0 front) b)) → by Plain ≡ 0 → (n : ℕ) → count (take (n + 1) text) ≡ count (take n text) + by (role_at a text n)
  counted_more count by more none n =
      ⊎_elim (λ h. ap count (take_more text n 0 h) ∙ more (take n text) (get_or text n 0) ∙ ap (λ r. count (take n text) + by r) (sym (role_here n h)))
      (λ h. let same = ap count (ends n h) in omega (arith, ap by (role_outside n h), none))
      (cases_lt n (length text))

  pub opened_more : (n : ℕ) → opened (n + 1) ≡ opened n + opens (role_at a text n)
  opened_more = counted_more (openings_in a 0) opens (λ front b. openings_append a 0 front (b ∷ []) ∙ omega arith) refl

  pub closed_more : (n : ℕ) → closed (n + 1) ≡ closed n + closes (role_at a text n)
  closed_more = counted_more (closings_in a 0) closes (λ front b. closings_append a 0 front (b ∷ []) ∙ omega arith) refl

  parts : (p q : ℕ) → p ≤ q + 1 → take (q + 1) text ≡ take p text ++ take ((q + 1) - p) (drop p text)
  parts p q h = let whole : q + 1 ≡ p + ((q + 1) - p) = omega arith in ap (λ n. take n text) whole ∙ take-add p ((q + 1) - p) text

  opened_from : (p q : ℕ) → p ≤ q + 1 → opened (q + 1) ≡ opened p + openings a text p q
  opened_from p q h = ap (openings_in a 0) (parts p q h) ∙ openings_append a 0 (take p text) (take ((q + 1) - p) (drop p text))

  closed_from : (p q : ℕ) → p ≤ q + 1 → closed (q + 1) ≡ closed p + closings a text p q
  closed_from p q h = ap (closings_in a 0) (parts p q h) ∙ closings_append a 0 (take p text) (take ((q + 1) - p) (drop p text))

  -- Two places are level where the text is as deep behind the one as before the other.
  module _ (p q : ℕ) (h : p ≤ q + 1) where
    pub level_by : opened (q + 1) + closed p ≡ closed (q + 1) + opened p → level a text p q ≡ true
    level_by e = eq-eqb (openings a text p q) (closings a text p q) (omega (arith, opened_from p q h, closed_from p q h))

    pub uneven_by : (opened (q + 1) + closed p ≡ closed (q + 1) + opened p → ⊥) → level a text p q ≡ false
    uneven_by ne = ne_eqb (openings a text p q) (closings a text p q) (λ e. ne (omega (arith, opened_from p q h, closed_from p q h)))

    pub by_level : level a text p q ≡ true → opened (q + 1) + closed p ≡ closed (q + 1) + opened p
    by_level t = let same = eqb-true (openings a text p q) (closings a text p q) t in omega (arith, opened_from p q h, closed_from p q h)

    pub by_uneven : level a text p q ≡ false → opened (q + 1) + closed p ≡ closed (q + 1) + opened p → ⊥
    by_uneven f e = eqb-false (openings a text p q) (closings a text p q) f (omega (arith, opened_from p q h, closed_from p q h))
