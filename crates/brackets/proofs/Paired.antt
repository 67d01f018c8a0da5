-- Two partners belong to each other. Between them the text is deeper than outside of them, so neither has a nearer one.
use Rattle.std.proofs.Common.{◌≡◌, ℕ, zero, suc, ◌+◌, ◌-◌, ◌<◌, ◌≤◌, Bool, false, length, List, Some, None, Option, sym, refl, ap, ◌∙◌, subst, ⊎_elim, arith}
use Rattle.std.specs.Option.{option_eq}
use Rattle.std.proofs.lemmas.Bool.{cases_lt}
use Rattle.automaton.specs.Automaton.{Automaton}
use Rattle.automaton.specs.declared.role.BracketKind.{BracketKind}
use Rattle.automaton.specs.declared.role.BracketKind.TheVariants.{Round, Square, Curly}
use Rattle.automaton.specs.declared.role.Role.{Role}
use Rattle.automaton.specs.declared.role.Role.TheVariants.{Plain, Opening, Closing}
use Rattle.measure.specs.Unmatched.{opens, closes}
use Rattle.measure.proofs.Unmatched.{one_role}
use Rattle.search.proofs.Places.{Lowest, Highest, least_is, least_found, greatest_is, greatest_found}
use Rattle.brackets.specs.Partner.{role_at, kind_of, same_kind, level, agree, partner_ahead, partner_behind, told, partner_by, partner}
use Rattle.brackets.specs.Laws.{PartnersArePaired}
use Rattle.brackets.specs.declared.partner.Partner.{Partner}
use Rattle.brackets.proofs.Depth.{opened, closed, role_outside, opened_more, closed_more, uneven_by, by_level, by_uneven}

is_opening : (r : Role BracketKind) → 0 < opens r → (kind : BracketKind) × (r ≡ Opening kind)
is_opening Plain h = absurd (omega arith)
is_opening (Opening kind) h = (kind, refl)
is_opening (Closing kind) h = absurd (omega arith)

is_closing : (r : Role BracketKind) → 0 < closes r → (kind : BracketKind) × (r ≡ Closing kind)
is_closing Plain h = absurd (omega arith)
is_closing (Opening kind) h = absurd (omega arith)
is_closing (Closing kind) h = (kind, refl)

turned_kind : (j k : BracketKind) → same_kind j k ≡ same_kind k j
turned_kind Round Round = refl
turned_kind Round Square = refl
turned_kind Round Curly = refl
turned_kind Square Round = refl
turned_kind Square Square = refl
turned_kind Square Curly = refl
turned_kind Curly Round = refl
turned_kind Curly Square = refl
turned_kind Curly Curly = refl

turned : (j k : Option BracketKind) → option_eq same_kind j k ≡ option_eq same_kind k j
turned None None = refl
turned None (Some k) = refl
turned (Some j) None = refl
turned (Some j) (Some k) = turned_kind j k

abbrev told_of : ℕ → Bool → Partner
told_of place same = record { place = place; agree = same }

module _ (a : Automaton) (text : List ℕ) where
  -- The text is deeper before n than before p.
  abbrev Deeper : ℕ → ℕ → Type 0
  Deeper p n = closed a text n + opened a text p < opened a text n + closed a text p

  -- Behind an opening it stays deeper up to the first level place.
  module _ (p x : ℕ) (opening : opens (role_at a text p) ≡ 1) (apart : (q : ℕ) → p < q → q < x → level a text p q ≡ false) where
    deeper_ahead : (k : ℕ) → p + 1 + k ≤ x → Deeper p (p + 1 + k)
    deeper_ahead zero h =
        let first : p + 1 + 0 ≡ p + 1 = omega arith in
        subst (Deeper p) (sym first) (omega (arith, opening, one_role (role_at a text p), opened_more a text p, closed_more a text p))
    deeper_ahead (suc k) h =
        let n = p + 1 + k in
        let next : p + 1 + suc k ≡ n + 1 = omega arith in
        let so_far = deeper_ahead k (omega arith) in
        let ne = by_uneven a text p n (omega arith) (apart n (omega arith) (omega arith)) in
        subst (Deeper p) (sym next) (omega (arith, so_far, ne, one_role (role_at a text n), opened_more a text n, closed_more a text n))

    pub within_ahead : (n : ℕ) → p < n → n ≤ x → Deeper p n
    within_ahead n h l = let place : p + 1 + (n - (p + 1)) ≡ n = omega arith in subst (Deeper p) place (deeper_ahead (n - (p + 1)) (omega arith))

  -- Before a closing it is deeper down to the first level place.
  module _ (p x : ℕ) (closing : closes (role_at a text p) ≡ 1) (apart : (q : ℕ) → x < q → q < p → level a text q p ≡ false) where
    pub within_behind : (k n : ℕ) → n + k ≡ p → x < n → Deeper (p + 1) n
    within_behind zero n e h =
        let last : p ≡ n = omega arith in
        subst (Deeper (p + 1)) last (omega (arith, closing, one_role (role_at a text p), opened_more a text p, closed_more a text p))
    within_behind (suc k) n e h =
        let so_far = within_behind k (n + 1) (omega arith) (omega arith) in
        let ne = by_uneven a text n p (omega arith) (apart n h (omega arith)) in
        omega (arith, so_far, ne, one_role (role_at a text n), opened_more a text n, closed_more a text n)

  abbrev Answers : ℕ → Partner → Type 0
  Answers p x = partner a text x.place ≡ Some (told_of p x.agree)

  same_kinds : (p q : ℕ) → agree a text q p ≡ agree a text p q
  same_kinds p q = turned (kind_of (role_at a text q)) (kind_of (role_at a text p))

  answers : (p q : ℕ) (o : Option ℕ) → partner a text q ≡ told a text q o → o ≡ Some p → Answers p (told_of q (agree a text p q))
  answers p q o by there = by ∙ ap (told a text q) there ∙ ap (λ t. Some (told_of p t)) (same_kinds p q)

  module _ (p : ℕ) (kind : BracketKind) (is : role_at a text p ≡ Opening kind) (q : ℕ) (found : Lowest (level a text p) (p + 1) (p + 1 + (length text - (p + 1))) q) where
    deep : (n : ℕ) → p < n → n ≤ q → Deeper p n
    deep = within_ahead p q (ap opens is) (λ r k l. found.first r (omega arith) l)

    closes_there : 0 < closes (role_at a text q)
    closes_there =
        let depth = deep q (omega (arith, found.behind)) (omega arith) in
        let ends = by_level a text p q (omega (arith, found.behind)) found.right in
        omega (arith, opened_more a text q, closed_more a text q)

    pub closing_there : (other : BracketKind) × (role_at a text q ≡ Closing other)
    closing_there = is_closing (role_at a text q) closes_there

    back_to : partner_behind a text q ≡ Some p
    back_to =
        greatest_is (λ r. level a text r q) q p (record {
          below = omega (arith, found.behind);
          right = found.right;
          last = λ r k l. uneven_by a text r q (omega arith) (λ e. let depth = deep r k (omega arith) in omega (arith, by_level a text p q (omega (arith, found.behind)) found.right));
        })

    pub closing_answers : Answers p (told_of q (agree a text p q))
    closing_answers = answers p q (partner_behind a text q) (ap (λ r. partner_by a text r q) closing_there.1) back_to

  module _ (p : ℕ) (kind : BracketKind) (is : role_at a text p ≡ Closing kind) (within : p < length text) (q : ℕ) (found : Highest (λ r. level a text r p) p q) where
    deep_behind : (n : ℕ) → q < n → n ≤ p → Deeper (p + 1) n
    deep_behind n h l = within_behind p q (ap closes is) (λ r k m. found.last r k m) (p - n) n (omega arith) h

    opens_there : 0 < opens (role_at a text q)
    opens_there =
        let depth = deep_behind (q + 1) (omega arith) (omega (arith, found.below)) in
        let ends = by_level a text q p (omega (arith, found.below)) found.right in
        omega (arith, opened_more a text q, closed_more a text q)

    pub opening_there : (other : BracketKind) × (role_at a text q ≡ Opening other)
    opening_there = is_opening (role_at a text q) opens_there

    ahead_to : partner_ahead a text q ≡ Some p
    ahead_to =
        least_is (level a text q) (length text - (q + 1)) (q + 1) p (record {
          behind = omega (arith, found.below);
          within = omega (arith, found.below);
          right = found.right;
          first = λ r k l.
              uneven_by a text q r (omega arith) (λ e. let depth = deep_behind (r + 1) (omega arith) (omega arith) in omega (arith, by_level a text q p (omega (arith, found.below)) found.right));
        })

    pub opening_answers : Answers p (told_of q (agree a text p q))
    opening_answers = answers p q (partner_ahead a text q) (ap (λ r. partner_by a text r q) opening_there.1) ahead_to

  abbrev ClosingAnswers : ℕ → Partner → Type 0
  ClosingAnswers p x = ((other : BracketKind) × (role_at a text x.place ≡ Closing other)) × Answers p x

  abbrev OpeningAnswers : ℕ → Partner → Type 0
  OpeningAnswers p x = ((other : BracketKind) × (role_at a text x.place ≡ Opening other)) × Answers p x

  pub pairs_ahead : (p : ℕ) (kind : BracketKind) (x : Partner) → role_at a text p ≡ Opening kind → (o : Option ℕ) → partner_ahead a text p ≡ o → told a text p o ≡ Some x → ClosingAnswers p x
  pairs_ahead p kind x is None e t = absurd (cc)
  pairs_ahead p kind x is (Some q) e t =
      let found = least_found (level a text p) (length text - (p + 1)) (p + 1) q e in
      let same : told_of q (agree a text p q) ≡ x = cc in
      subst (ClosingAnswers p) same (closing_there p kind is q found, closing_answers p kind is q found)

  pub pairs_behind : (p : ℕ) (kind : BracketKind) (x : Partner) → role_at a text p ≡ Closing kind → p < length text → (o : Option ℕ) → partner_behind a text p ≡ o → told a text p o ≡ Some x → OpeningAnswers p x
  pairs_behind p kind x is within None e t = absurd (cc)
  pairs_behind p kind x is within (Some q) e t =
      let found = greatest_found (λ r. level a text r p) p q e in
      let same : told_of q (agree a text p q) ≡ x = cc in
      subst (OpeningAnswers p) same (opening_there p kind is within q found, opening_answers p kind is within q found)

  -- Only a byte of the text has a role.
  pub closing_within : (p : ℕ) (kind : BracketKind) → role_at a text p ≡ Closing kind → p < length text
  closing_within p kind is =
      ⊎_elim (λ h. h)
      (λ h. let some = ap closes is in let none = ap closes (role_outside a text p h) in absurd (omega arith))
      (cases_lt p (length text))

pub partners_are_paired : PartnersArePaired
partners_are_paired = record {
  openings = λ a text p kind x is e. pairs_ahead a text p kind x is (partner_ahead a text p) refl (sym (ap (λ r. partner_by a text r p) is) ∙ e);
  closings = λ a text p kind x is e. pairs_behind a text p kind x is (closing_within a text p kind is) (partner_behind a text p) refl (sym (ap (λ r. partner_by a text r p) is) ∙ e);
}
