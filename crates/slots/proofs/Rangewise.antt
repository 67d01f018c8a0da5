-- How large a tree in memory can be, the reading that is kept at its top, and three readings joined.
use Rattle.std.proofs.Common.{◌≡◌, ℕ, ◌≤◌, List, ◌++◌, length, get_or, Some, Option, sym, ap, ◌∙◌, append_assoc, arith}
use Rattle.measure.specs.Measure.{Measure, reading, Lawful}
use Rattle.measure.proofs.Measure.{reading_append}
use Rattle.chunks.specs.Tree.{Tree, leaf, node, root, slots}
use Rattle.chunks.proofs.Footprint.{few_below}
use Rattle.slots.specs.declared.memory.Memory.{Memory}
use Rattle.slots.specs.Claim.{nothing, kept}
use Rattle.slots.specs.View.{text_of}
use Rattle.slots.specs.Holds.{Holds}
use Rattle.slots.specs.Split.{Held}
use Rattle.slots.proofs.Holds.{short_held}

-- The text of a tree is not too long to count.
pub text_short : {R : Type 0} {m : Memory R} {link : Option ℕ} {t : Tree} → Held m link t → length (text_of m t) ≤ 262144
text_short {m} {link} {t} held =
    let few = held.roomy.few in
    omega (arith, short_held nothing m held.roomy t held.holds, few_below m.usable (slots t) held.once)

module _ {R : Type 0} (μ : Measure R) (lawful : Lawful μ) where
  pub reading_three : (xs ys zs : List ℕ) → μ.join (μ.join (reading μ xs) (reading μ ys)) (reading μ zs) ≡ reading μ (xs ++ (ys ++ zs))
  reading_three xs ys zs =
      ap (λ v. μ.join v (reading μ zs)) (sym (reading_append μ lawful xs ys)) ∙ sym (reading_append μ lawful (xs ++ ys) zs) ∙ ap (reading μ) (append_assoc xs ys zs)

-- What is kept at the top of a tree is the reading of all of it.
pub kept_top : {R : Type 0} (μ : Measure R) (m : Memory R) (t : Tree) (i : ℕ) → Some i ≡ root t → Holds (kept μ) m t → (v : R) → v ≡ get_or m.readings.now i v → v ≡ reading μ (text_of m t)
kept_top μ m leaf i e h v is = let z : ◌≡◌ {A = ℕ} 0 1 = cc in let no : ⊥ = omega arith in absurd no
kept_top μ m (node l k r) i e (here, _) v is = let same : i ≡ k = cc in is ∙ ap (λ n. get_or m.readings.now n v) same ∙ here.summed v

-- A tree has at most 4,096 slots.
pub slots_few : {R : Type 0} {m : Memory R} {link : Option ℕ} {t : Tree} → Held m link t → length (slots t) ≤ 4096
slots_few {m} {link} {t} held = let few = held.roomy.few in omega (arith, few_below m.usable (slots t) held.once)
