-- What is read off memory is what memory holds; and soundness has one proof at most, so that nothing of it is lost.
use Rattle.std.proofs.Common.{◌≡◌, ℕ, zero, suc, ◌≤◌, List, [], ◌∷◌, length, Some, None, Option, sym, refl, ap, ◌∙◌, subst, arith}
use mathlib.Core.HLevel.{→_set}
use mathlib.Core.Logic.{∥∥₁_elim}
use native.Mathlib.Nat.{ℕ_set}
use native.Mathlib.Bridge.{le_prop}
use ghost.Sets.{retract_set}
use Rattle.chunks.specs.Tree.{Tree, leaf, node, root, height}
use Rattle.chunks.proofs.Footprint.{few_below}
use Rattle.slots.specs.declared.memory.Memory.{Memory}
use Rattle.slots.specs.declared.slot.Slot.{Slot}
use Rattle.slots.specs.declared.slot.Extent.{Extent}
use Rattle.slots.specs.Claim.{nothing}
use Rattle.slots.specs.View.{next_of, height_at, Roomy}
use Rattle.slots.specs.Holds.{Here, Holds}
use Rattle.slots.specs.Free.{Stack}
use Rattle.slots.specs.Replace.{Whole}
use Rattle.slots.specs.Split.{Held}
use Rattle.slots.specs.Sound.{left_of, right_of, read, read_free, tree_of, free_of, Sound}
use Rattle.slots.proofs.Joining.{at_any, height_held}

module _ {R : Type 0} (m : Memory R) (roomy : Roomy m) where
  read_held : (n : ℕ) (t : Tree) (link : Option ℕ) → height t ≤ n → link ≡ root t → Holds nothing m t → read m n link ≡ t
  unfolding read
  read_held zero leaf link low e h = refl
  read_held (suc n) leaf link low e h = ap (read m (suc n)) e
  read_held zero (node l i r) link low e h = let no : ⊥ = omega arith in absurd no
  read_held (suc n) (node l i r) link low e (here, (hl, hr)) =
      let room = roomy.slot_each in
      let known = here.known in
      let left = at_any m.slots.now i (omega arith) (λ (s : Slot R). s.node.left) None (λ d. (here.placed d).left) in
      let right = at_any m.slots.now i (omega arith) (λ (s : Slot R). s.node.right) None (λ d. (here.placed d).right) in
      ap (read m (suc n)) e
      ∙ ap (λ (z : Tree). node z i (read m n (right_of m i))) (read_held n l (left_of m i) (omega arith) left hl)
      ∙ ap (node l i) (read_held n r (right_of m i) (omega arith) right hr)

  pub tree_held : (t : Tree) (link : Option ℕ) → link ≡ root t → Holds nothing m t → tree_of m link ≡ t
  unfolding tree_of
  tree_held t link e h = let high = height_held m roomy t link e h in read_held (height_at m link) t link (omega arith) e h

free_held : {R : Type 0} (m : Memory R) (n : ℕ) (is : List ℕ) (link : Option ℕ) → length is ≤ n → Stack m link is → read_free m n link ≡ is
unfolding read_free
free_held m zero [] link few h = refl
free_held m (suc n) [] link few h = ap (read_free m (suc n)) h
free_held m zero (i ∷ is) link few h = let no : ⊥ = omega arith in absurd no
free_held m (suc n) (i ∷ is) link few (here, rest) = ap (read_free m (suc n)) here ∙ ap (λ l. i ∷ l) (free_held m n is (next_of m i) (omega arith) rest)

module _ {R : Type 0} {m : Memory R} {link : Option ℕ} {t : Tree} {is : List ℕ} (whole : Whole m link t is) where
  pub tree_is : tree_of m link ≡ t
  tree_is = tree_held m whole.roomy t link whole.root_is whole.holds

  pub free_is : free_of m ≡ is
  unfolding free_of
  free_is = free_held m m.usable is m.free (few_below m.usable is (λ j. omega (arith, whole.all j))) whole.stack

  pub sound_whole : Sound m link
  sound_whole = ∣ subst (λ (z : Tree). Whole m link z (free_of m)) (sym tree_is) (subst (λ (z : List ℕ). Whole m link t z) (sym free_is) whole) ∣₁

-- Soundness has one proof at most.
encode : Option ℕ → ℕ
encode None = 0
encode (Some n) = suc n

decode : ℕ → Option ℕ
decode zero = None
decode (suc n) = Some n

decode_encode : (o : Option ℕ) → decode (encode o) ≡ o
unfolding encode decode
decode_encode None = refl
decode_encode (Some n) = refl

option_set : IsSet (Option ℕ)
option_set = retract_set encode decode decode_encode ℕ_set

spread : Extent → ℕ → ℕ
spread e zero = e.height
spread e (suc zero) = e.bytes
spread e (suc (suc n)) = e.chunks

gather : (ℕ → ℕ) → Extent
gather f = record { height = f 0; bytes = f 1; chunks = f 2 }

gather_spread : (e : Extent) → gather (spread e) ≡ e
unfolding spread gather
gather_spread e = refl

extent_set : IsSet Extent
extent_set = retract_set spread gather gather_spread (→_set ℕ_set)

roomy_prop : {R : Type 0} (m : Memory R) → IsProp (Roomy m)
roomy_prop m x y = λ z. record {
  few = le_prop x.few y.few z;
  slot_each = le_prop x.slot_each y.slot_each z;
  reading_each = le_prop x.reading_each y.reading_each z;
  store_each = le_prop x.store_each y.store_each z;
}

here_prop : {R : Type 0} (m : Memory R) (l : Tree) (i : ℕ) (r : Tree) → IsProp (Here nothing m l i r)
here_prop m l i r x y = λ z. record {
  known = le_prop x.known y.known z;
  some_byte = le_prop x.some_byte y.some_byte z;
  few_bytes = le_prop x.few_bytes y.few_bytes z;
  level = record { left_low = le_prop x.level.left_low y.level.left_low z; right_low = le_prop x.level.right_low y.level.right_low z };
  placed = λ d. record {
    left = option_set _ _ (x.placed d).left (y.placed d).left z;
    right = option_set _ _ (x.placed d).right (y.placed d).right z;
    extent = extent_set _ _ (x.placed d).extent (y.placed d).extent z;
    own = tt;
  };
  summed = λ d. tt;
}

holds_prop : {R : Type 0} (m : Memory R) (t : Tree) → IsProp (Holds nothing m t)
holds_prop m leaf x y = refl
holds_prop m (node l i r) x y = λ z. (here_prop m l i r x.0 y.0 z, (holds_prop m l x.1.0 y.1.0 z, holds_prop m r x.1.1 y.1.1 z))

stack_prop : {R : Type 0} (m : Memory R) (link : Option ℕ) (is : List ℕ) → IsProp (Stack m link is)
stack_prop m link [] x y = option_set _ _ x y
stack_prop m link (i ∷ is) x y = λ z. (option_set _ _ x.0 y.0 z, stack_prop m (next_of m i) is x.1 y.1 z)

whole_prop : {R : Type 0} (m : Memory R) (link : Option ℕ) (t : Tree) (is : List ℕ) → IsProp (Whole m link t is)
whole_prop m link t is x y = λ z. record {
  roomy = roomy_prop m x.roomy y.roomy z;
  root_is = option_set _ _ x.root_is y.root_is z;
  holds = holds_prop m t x.holds y.holds z;
  stack = stack_prop m m.free is x.stack y.stack z;
  all = λ j. ℕ_set _ _ (x.all j) (y.all j) z;
}

pub whole_sound : {R : Type 0} (m : Memory R) (link : Option ℕ) → Sound m link → Whole m link (tree_of m link) (free_of m)
whole_sound m link s = ∥∥₁_elim s (whole_prop m link (tree_of m link) (free_of m)) (λ w. w)

held_prop : {R : Type 0} (m : Memory R) (link : Option ℕ) (t : Tree) → IsProp (Held m link t)
held_prop m link t x y = λ z. record {
  roomy = roomy_prop m x.roomy y.roomy z;
  root_is = option_set _ _ x.root_is y.root_is z;
  holds = holds_prop m t x.holds y.holds z;
  once = λ j. le_prop (x.once j) (y.once j) z;
}

-- A tree that is read off memory and held there, also where only that it is held is kept.
pub held_read : {R : Type 0} (m : Memory R) (link : Option ℕ) → ∥ Held m link (tree_of m link) ∥₁ → Held m link (tree_of m link)
held_read m link s = ∥∥₁_elim s (held_prop m link (tree_of m link)) (λ h. h)

pub read_is : {R : Type 0} {m : Memory R} {link : Option ℕ} {t : Tree} → Held m link t → tree_of m link ≡ t
read_is {m} {link} {t} held = tree_held m held.roomy t link held.root_is held.holds

pub held_kept : {R : Type 0} {m : Memory R} {link : Option ℕ} {t : Tree} → Held m link t → ∥ Held m link (tree_of m link) ∥₁
held_kept {m} {link} {t} held = ∣ subst (λ (z : Tree). Held m link z) (sym (read_is held)) held ∣₁
