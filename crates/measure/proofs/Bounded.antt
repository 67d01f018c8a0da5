-- How readings that may be overlong join, once for all of them.
use Rattle.std.proofs.Common.{◌≡◌, ℕ, ◌+◌, ◌<◌, ◌≤◌, cond, leb, List, ◌++◌, length, sym, refl, ap, ◌∙◌, ⊎_elim, arith, Option, Some, None}
use Rattle.std.proofs.lemmas.List.{length-append}
use Rattle.std.proofs.lemmas.Bool.{cases_lt, cond-true, cond-false, le-leb, lt-leb}
use Rattle.measure.specs.Bounded.{longest, bounded, join_bounded}

module _ {T : Type 0} (said : List ℕ → T) where
  pub bounded_within : (text : List ℕ) → length text ≤ longest → bounded said text ≡ Some (said text)
  bounded_within text h = cond-true (leb (length text) longest) (Some (said text)) None (le-leb (length text) longest h)

  pub bounded_over : (text : List ℕ) → longest < length text → bounded said text ≡ None
  bounded_over text h = cond-false (leb (length text) longest) (Some (said text)) None (lt-leb (length text) longest h)

over_right : {T : Type 0} (long : T → ℕ) (beside : T → T → T) (r : Option T) → join_bounded long beside r None ≡ None
over_right long beside (Some p) = refl
over_right long beside None = refl

module _ {T : Type 0} (said : List ℕ → T) (long : T → ℕ) (beside : T → T → T)
    (length-said : (xs : List ℕ) → long (said xs) ≡ length xs)
    (beside-said : (xs ys : List ℕ) → length xs + length ys ≤ longest → beside (said xs) (said ys) ≡ said (xs ++ ys)) where
  join_within : (xs ys : List ℕ) → join_bounded long beside (Some (said xs)) (Some (said ys)) ≡ bounded said (xs ++ ys)
  join_within xs ys =
      let whole = length-append xs ys in
      let left = length-said xs in
      let right = length-said ys in
      let together = cond (leb (long (said xs) + long (said ys)) longest) (Some (beside (said xs) (said ys))) None in
      let fits : length xs + length ys ≤ longest → together ≡ bounded said (xs ++ ys) = λ h.
      cond-true (leb (long (said xs) + long (said ys)) longest) (Some (beside (said xs) (said ys))) None (le-leb (long (said xs) + long (said ys)) longest (omega arith))
      ∙ ap Some (beside-said xs ys h)
      ∙ sym (bounded_within said (xs ++ ys) (omega arith)) in
      let passes : longest < length xs + length ys → together ≡ bounded said (xs ++ ys) = λ h.
      cond-false (leb (long (said xs) + long (said ys)) longest) (Some (beside (said xs) (said ys))) None (lt-leb (long (said xs) + long (said ys)) longest (omega arith))
      ∙ sym (bounded_over said (xs ++ ys) (omega arith)) in
      ⊎_elim passes fits (cases_lt longest (length xs + length ys))

  -- The join of what is said of two texts is what is said of both, one behind the other.
  pub join_said : (xs ys : List ℕ) → join_bounded long beside (bounded said xs) (bounded said ys) ≡ bounded said (xs ++ ys)
  join_said xs ys =
      let join = join_bounded long beside in
      let whole = length-append xs ys in
      ⊎_elim (λ h. ap (λ r. join r (bounded said ys)) (bounded_over said xs h) ∙ sym (bounded_over said (xs ++ ys) (omega arith)))
      (λ h. ⊎_elim
      (λ k. ap (join (bounded said xs)) (bounded_over said ys k) ∙ over_right long beside (bounded said xs) ∙ sym (bounded_over said (xs ++ ys) (omega arith)))
      (λ k. ap (λ r. join r (bounded said ys)) (bounded_within said xs h) ∙ ap (join (Some (said xs))) (bounded_within said ys k) ∙ join_within xs ys)
      (cases_lt longest (length ys)))
      (cases_lt longest (length xs))
