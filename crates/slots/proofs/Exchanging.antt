-- What one exchange of chunks comes to: the tree that memory holds then, and that there are slots enough.
use Rattle.std.proofs.Common.{◌≡◌, ℕ, ◌+◌, ◌-◌, ◌≤◌, List, ◌++◌, length, take, Option, sym, refl, ap, ◌∙◌, subst, arith}
use Rattle.std.proofs.lemmas.List.{length-append, length-map, length-take-le, length-drop}
use Rattle.measure.specs.Measure.{Measure}
use Rattle.chunks.specs.Tree.{Tree, slots}
use Rattle.chunks.specs.Cut.{cut, needed, replaced}
use Rattle.chunks.proofs.Footprint.{count_append, all_below}
use Rattle.slots.specs.declared.memory.Memory.{Memory}
use Rattle.slots.specs.Claim.{kept}
use Rattle.slots.specs.View.{chunk_of, chunks_of}
use Rattle.slots.specs.Holds.{Holds}
use Rattle.slots.specs.Replace.{Whole, Parted, SameSize, Removed, Filled}
use Rattle.slots.specs.Sound.{chunks_in, Kept}
use Rattle.slots.proofs.Reading.{tree_is}
use Rattle.slots.proofs.Replacing.{size_trans}

-- The free slots are as many as the trees leave.
pub parted_free : {R : Type 0} {m : Memory R} {first : Option ℕ} {a : Tree} {rest : Option ℕ} {b : Tree} {is : List ℕ} → Parted m first a rest b is → length (slots a) + length (slots b) + length is ≡ m.usable
parted_free {m} {a} {b} {is} p =
    let all = all_below m.usable (slots a ++ (slots b ++ is)) (λ j. omega (arith, p.all j, count_append (slots a) (slots b ++ is) j, count_append (slots b) is j)) in
    omega (arith, length-append (slots a) (slots b ++ is), length-append (slots b) is)

module _ {R : Type 0} {μ : Measure R} {m : Memory R} (t : Tree) {from to : ℕ} (order : from ≤ to) (within : to ≤ length (chunks_of m t)) (bytes : List ℕ)
    (fits : length (chunks_of m t) - (to - from) + needed (length bytes) ≤ m.usable)
    {m₁ : Memory R} {first : Option ℕ} {a : Tree} {rest : Option ℕ} {b : Tree} {is : List ℕ} (parted : Parted m₁ first a rest b is) (removed : Removed μ m t from to m₁ a b) where
  -- There are slots enough.
  pub enough_free : needed (length bytes) ≤ length is
  enough_free =
      let u = removed.same_size.usable in
      let before = ap length removed.before ∙ length-take-le from (chunks_of m t) (omega arith) in
      let behind = ap length removed.behind ∙ length-drop to (chunks_of m t) in
      omega (arith, parted_free parted, length-map (slots a) (chunk_of m₁), length-map (slots b) (chunk_of m₁))

  module _ {m₂ : Memory R} {link : Option ℕ} {t₂ : Tree} {js : List ℕ} (whole : Whole m₂ link t₂ js) (filled : Filled μ m₁ a b bytes m₂ t₂) where
    pub exchanged_chunks : chunks_in m₂ link ≡ replaced from to (cut bytes) (chunks_of m t)
    exchanged_chunks =
        ap (chunks_of m₂) (tree_is whole) ∙ filled.chunks_are ∙ ap (λ l. l ++ (cut bytes ++ chunks_of m₁ b)) removed.before ∙ ap (λ l. take from (chunks_of m t) ++ (cut bytes ++ l)) removed.behind

    pub exchanged_kept : Holds (kept μ) m t → Kept μ m₂ link
    exchanged_kept h =
        let parts = removed.keeps (kept μ) refl h in
        subst (Holds (kept μ) m₂) (sym (tree_is whole)) (filled.keeps (kept μ) refl parts.0 parts.1)

    pub exchanged_size : SameSize m m₂
    exchanged_size = size_trans removed.same_size filled.same_size
