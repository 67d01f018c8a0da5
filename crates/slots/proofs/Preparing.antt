-- The slots made free one by one, from the last to the first.
use Rattle.std.proofs.Common.{◌≡◌, ℕ, suc, ◌+◌, ◌-◌, ◌<◌, ◌≤◌, [], ◌∷◌, Some, None, Option, sym, refl, ap, subst, arith}
use Rattle.std.specs.List.{range_with_len}
use Rattle.std.proofs.lemmas.Bool.Decides.{nat_tests}
use Rattle.chunks.specs.Tree.{leaf}
use Rattle.chunks.specs.Footprint.{one, count, below}
use Rattle.chunks.proofs.Footprint.{below_few}
use Rattle.chunks.proofs.Spotting.{count_counting}
use Rattle.slots.specs.declared.memory.Memory.{Memory}
use Rattle.slots.specs.View.{next_of, Roomy}
use Rattle.slots.specs.Free.{Stack, Elsewhere}
use Rattle.slots.specs.Replace.{Whole}
use Rattle.slots.proofs.Elsewhere.{stack_elsewhere}

apart_below : (i k j : ℕ) → count (range_with_len (i + 1) k) j + one i j ≤ 1
apart_below i k j = let all = count_counting (i + 1) k j in let few = below_few (i + 1 + k) j in grind (arith, nat_tests)

pub stack_more : {R : Type 0} (m after : Memory R) (n i : ℕ) → 0 < i → i ≤ n → Stack m m.free (range_with_len i (n - i)) → Elsewhere m after (one (i - 1)) → after.free ≡ Some (i - 1) → next_of after (i - 1) ≡ m.free →
    Stack after after.free (range_with_len (i - 1) (n - (i - 1)))
stack_more m after n i some within stack there free next =
    let h = i - 1 in
    let back : i ≡ h + 1 = omega arith in
    let sum : n - h ≡ suc (n - i) = omega arith in
    let old : Stack m m.free (range_with_len (h + 1) (n - i)) = subst (λ k. Stack m m.free (range_with_len k (n - i))) back stack in
    let rest = stack_elsewhere m after (one h) there m.free (range_with_len (h + 1) (n - i)) (apart_below h (n - i)) old in
    let new : Stack after after.free (h ∷ range_with_len (h + 1) (n - i)) = (free, subst (λ (z : Option ℕ). Stack after z (range_with_len (h + 1) (n - i))) (sym next) rest) in
    subst (λ k. Stack after after.free (range_with_len h k)) (sym sum) new

pub whole_free : {R : Type 0} (m : Memory R) (n i : ℕ) → i ≤ 0 → Roomy m → m.usable ≡ n → Stack m m.free (range_with_len i (n - i)) → Whole m None leaf (range_with_len 0 n)
whole_free m n i end roomy usable stack =
    let zero_is : i ≡ 0 = omega arith in
    let all-is : n - i ≡ n = omega arith in
    record {
      roomy = roomy;
      root_is = refl;
      holds = tt;
      stack = subst (λ k. Stack m m.free (range_with_len 0 k)) all-is (subst (λ k. Stack m m.free (range_with_len k (n - i))) zero_is stack);
      all = λ j.
          let one_by_one = count_counting 0 n j in
          let e : 0 + n ≡ m.usable = omega arith in
          let top = ap (λ k. below k j) e in
          grind (arith, nat_tests);
    }

-- Where nothing is usable, nothing is held.
pub whole_none : {R : Type 0} (m : Memory R) → m.usable ≡ 0 → m.free ≡ None → Whole m None leaf []
whole_none m none free = record {
  roomy = record { few = omega arith; slot_each = omega arith; reading_each = omega arith; store_each = omega arith };
  root_is = refl;
  holds = tt;
  stack = free;
  all = λ j. let top = ap (λ k. below k j) none in grind (arith, nat_tests);
}
