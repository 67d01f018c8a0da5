-- What the nearest place is, upwards and downwards, and that no other place is it.
use Rattle.std.proofs.Common.{◌≡◌, ℕ, zero, suc, ◌+◌, ◌<◌, ◌≤◌, Bool, true, false, Some, None, sym, ap, ◌∙◌, ⊎_elim, arith}
use Rattle.std.proofs.lemmas.Bool.{cases_Bool, cases_eq, cond-true, cond-false}
use Rattle.search.specs.Places.{least, greatest}

-- A place from `from` on, below `to`, that passes where none below it does.
pub record Lowest (passes : ℕ → Bool) (from to x : ℕ) : Type 0 where
  pub behind : from ≤ x
  pub within : x < to
  pub right : passes x ≡ true
  pub first : (q : ℕ) → from ≤ q → q < x → passes q ≡ false

-- A place below `bound` that passes where none above it does.
pub record Highest (passes : ℕ → Bool) (bound x : ℕ) : Type 0 where
  pub below : x < bound
  pub right : passes x ≡ true
  pub last : (q : ℕ) → x < q → q < bound → passes q ≡ false

module _ (passes : ℕ → Bool) where
  pub least_is : (count from x : ℕ) → Lowest passes from (from + count) x → least passes from count ≡ Some x
  least_is zero from x h = absurd (omega (arith, h.behind, h.within))
  least_is (suc count) from x h =
      ⊎_elim
      (λ e. cond-true (passes from) (Some from) (least passes (suc from) count) (ap passes e ∙ h.right) ∙ ap Some e)
      (λ ne.
      let above : from < x = omega (arith, h.behind, ne) in
      cond-false (passes from) (Some from) (least passes (suc from) count) (h.first from (omega arith) above)
      ∙ least_is count (suc from) x (record { behind = omega arith; within = omega (arith, h.within); right = h.right; first = λ q k l. h.first q (omega arith) l }))
      (cases_eq from x)

  pub least_found : (count from x : ℕ) → least passes from count ≡ Some x → Lowest passes from (from + count) x
  least_found zero from x e = absurd (cc)
  least_found (suc count) from x e =
      ⊎_elim
      (λ t.
      let same : from ≡ x = let z : Some from ≡ Some x = sym (cond-true (passes from) (Some from) (least passes (suc from) count) t) ∙ e in cc in
      record { behind = omega arith; within = omega arith; right = ap passes (sym same) ∙ t; first = λ q k l. absurd (omega arith) })
      (λ f.
      let more = least_found count (suc from) x (sym (cond-false (passes from) (Some from) (least passes (suc from) count) f) ∙ e) in
      record {
        behind = omega (arith, more.behind);
        within = omega (arith, more.within);
        right = more.right;
        first = λ q k l. ⊎_elim (λ s. ap passes (sym s) ∙ f) (λ ne. more.first q (omega (arith, ne)) l) (cases_eq from q);
      })
      (cases_Bool (passes from))

  pub least_missed : (count from : ℕ) → least passes from count ≡ None → (q : ℕ) → from ≤ q → q < from + count → passes q ≡ false
  least_missed zero from e q k l = absurd (omega arith)
  least_missed (suc count) from e q k l =
      ⊎_elim
      (λ t. absurd (cc (sym (cond-true (passes from) (Some from) (least passes (suc from) count) t) ∙ e)))
      (λ f.
      let rest = sym (cond-false (passes from) (Some from) (least passes (suc from) count) f) ∙ e in
      ⊎_elim (λ s. ap passes (sym s) ∙ f) (λ ne. least_missed count (suc from) rest q (omega (arith, ne)) (omega arith)) (cases_eq from q))
      (cases_Bool (passes from))

  pub greatest_is : (bound x : ℕ) → Highest passes bound x → greatest passes bound ≡ Some x
  greatest_is zero x h = absurd (omega (arith, h.below))
  greatest_is (suc bound) x h =
      ⊎_elim
      (λ e. cond-true (passes bound) (Some bound) (greatest passes bound) (ap passes e ∙ h.right) ∙ ap Some e)
      (λ ne.
      let under : x < bound = omega (arith, h.below, ne) in
      cond-false (passes bound) (Some bound) (greatest passes bound) (h.last bound under (omega arith))
      ∙ greatest_is bound x (record { below = under; right = h.right; last = λ q k l. h.last q k (omega arith) }))
      (cases_eq bound x)

  pub greatest_found : (bound x : ℕ) → greatest passes bound ≡ Some x → Highest passes bound x
  greatest_found zero x e = absurd (cc)
  greatest_found (suc bound) x e =
      ⊎_elim
      (λ t.
      let same : bound ≡ x = let z : Some bound ≡ Some x = sym (cond-true (passes bound) (Some bound) (greatest passes bound) t) ∙ e in cc in
      record { below = omega arith; right = ap passes (sym same) ∙ t; last = λ q k l. absurd (omega arith) })
      (λ f.
      let more = greatest_found bound x (sym (cond-false (passes bound) (Some bound) (greatest passes bound) f) ∙ e) in
      record {
        below = omega (arith, more.below);
        right = more.right;
        last = λ q k l. ⊎_elim (λ s. ap passes (sym s) ∙ f) (λ ne. more.last q k (omega (arith, ne))) (cases_eq bound q);
      })
      (cases_Bool (passes bound))

  pub greatest_missed : (bound : ℕ) → greatest passes bound ≡ None → (q : ℕ) → q < bound → passes q ≡ false
  greatest_missed zero e q l = absurd (omega arith)
  greatest_missed (suc bound) e q l =
      ⊎_elim
      (λ t. absurd (cc (sym (cond-true (passes bound) (Some bound) (greatest passes bound) t) ∙ e)))
      (λ f.
      let rest = sym (cond-false (passes bound) (Some bound) (greatest passes bound) f) ∙ e in
      ⊎_elim (λ s. ap passes (sym s) ∙ f) (λ ne. greatest_missed bound rest q (omega (arith, ne))) (cases_eq bound q))
      (cases_Bool (passes bound))
