-- A free slot taken and written.
use Rattle.std.proofs.Common.{◌≡◌, ℕ, List, ◌∷◌, length, get_or, Option, sym, ap, ◌∙◌, subst, arith}
use Rattle.measure.specs.Measure.{Measure, reading}
use Rattle.chunks.specs.Footprint.{one}
use Rattle.chunks.proofs.Footprint.{below_few}
use Rattle.slots.specs.declared.memory.Memory.{Memory}
use Rattle.slots.specs.Claim.{Claim, nothing, kept, Says, Fair}
use Rattle.slots.specs.View.{size_of, next_of, chunk_of}
use Rattle.slots.specs.Free.{Stack, Idle, Elsewhere, Written, Stored}
use Rattle.slots.proofs.Elsewhere.{elsewhere_trans, elsewhere_more, elsewhere_stack, stack_elsewhere}

-- A value that the meter measured says what any fair claim says.
pub says_measured : {R : Type 0} (μ : Measure R) (w : Claim R) → Fair w μ → (v : R) (bytes : List ℕ) → v ≡ reading μ bytes → Says w v bytes
says_measured μ nothing fair v bytes e = tt
says_measured μ (kept ν) fair v bytes e = e ∙ ap (λ n. reading n bytes) (sym fair)

module _ {R : Type 0} (μ : Measure R) {m : Memory R} {i : ℕ} {is : List ℕ} (idle : Idle m (i ∷ is)) (r : ℕ) (first : r ≡ i) {m₁ : Memory R} (rest : m₁.free ≡ next_of m r)
    (slots : m₁.slots.now ≡ m.slots.now) (store : m₁.store.now ≡ m.store.now) (readings : m₁.readings.now ≡ m.readings.now) (usable : m₁.usable ≡ m.usable)
    {bytes : List ℕ} (own : R) (measured : own ≡ reading μ bytes) (m₂ : Memory R) (wrote : Written m₁ r bytes own m₂) where
  took : Elsewhere m m₁ (λ j. 0)
  took = elsewhere_stack m m₁ (λ j. 0) slots store readings usable

  stored_at : (n : ℕ) → r ≡ n → Elsewhere m m₂ (one n) × ((chunk_of m₂ n ≡ bytes) × (size_of m₂ n ≡ length bytes))
  stored_at n e =
      let P : ℕ → Type 0 = λ k. Elsewhere m m₂ (one k) × ((chunk_of m₂ k ≡ bytes) × (size_of m₂ k ≡ length bytes)) in
      subst P e (elsewhere_more m m₂ _ _ (λ j h. omega arith) (elsewhere_trans m m₁ m₂ _ _ took wrote.elsewhere), (wrote.chunk_is, wrote.size_is))

  pub stored : Stored μ m i is bytes m₂
  stored =
      let at = stored_at i first in
      let below-stack = idle.stack.1 in
      let link : m₂.free ≡ next_of m i = wrote.free ∙ rest ∙ ap (next_of m) first in
      record {
        elsewhere = at.0;
        stack = subst (λ (z : Option ℕ). Stack m₂ z is) (sym link) (stack_elsewhere m m₂ (one i) at.0 (next_of m i) is (λ j. omega (arith, idle.once j, below_few m.usable j)) below-stack);
        chunk_is = at.1.0;
        size_is = at.1.1;
        owned = λ w fair. record {
          own = λ d. says_measured μ w fair _ _ (ap (λ k. (get_or m₂.slots.now k d).own) (sym first) ∙ wrote.own_is d ∙ measured ∙ ap (reading μ) (sym at.1.0));
        };
      }
