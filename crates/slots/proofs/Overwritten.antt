-- What writing over as many chunks comes to.
use Rattle.std.proofs.Common.{◌≡◌, ℕ, ◌+◌, ◌-◌, ◌≤◌, List, length, Option, sym, refl, ap, ◌∙◌, subst, arith}
use Rattle.measure.specs.Measure.{Measure}
use Rattle.chunks.specs.Tree.{Tree}
use Rattle.chunks.specs.Footprint.{uses, count, below}
use Rattle.chunks.specs.Cut.{cut, needed, part, replaced}
use Rattle.chunks.proofs.Cut.{cut_part}
use Rattle.chunks.proofs.Footprint.{below_few}
use Rattle.chunks.proofs.Overwriting.{over_replaced}
use Rattle.slots.specs.declared.memory.Memory.{Memory}
use Rattle.slots.specs.Claim.{nothing, kept}
use Rattle.slots.specs.View.{chunks_of}
use Rattle.slots.specs.Holds.{Holds}
use Rattle.slots.specs.Free.{Stack}
use Rattle.slots.specs.Replace.{Whole, SameSize}
use Rattle.slots.specs.Sound.{Kept, chunks_in}
use Rattle.slots.specs.Rewrite.{Rewritten}
use Rattle.slots.proofs.Elsewhere.{roomy_elsewhere, stack_elsewhere}
use Rattle.slots.proofs.Reading.{tree_is}
use Rattle.slots.proofs.Replacing.{same_size}

module _ {R : Type 0} {μ : Measure R} {m : Memory R} {link : Option ℕ} (t : Tree) {is : List ℕ} (whole : Whole m link t is) (bytes : List ℕ) (from : ℕ) (within : from + needed (length bytes) ≤ length (chunks_of m t))
    {after : Memory R} (done : Rewritten μ m t 0 bytes (needed (length bytes)) from (from + needed (length bytes)) after) where
  pub overwritten_whole : Whole after link t is
  overwritten_whole = record {
    roomy = roomy_elsewhere m after _ done.elsewhere whole.roomy;
    root_is = whole.root_is;
    holds = done.keeps nothing tt whole.holds;
    stack =
        subst (λ (z : Option ℕ). Stack after z is) (sym done.free)
        (stack_elsewhere m after _ done.elsewhere m.free is (λ j. omega (arith, whole.all j, below_few m.usable j)) whole.stack);
    all = λ j. subst (λ z. uses t j + count is j ≡ below z j) (sym done.elsewhere.usable) (whole.all j);
  }

  pub overwritten_chunks : chunks_in after link ≡ replaced from (from + needed (length bytes)) (cut bytes) (chunks_of m t)
  overwritten_chunks =
      let q = needed (length bytes) in
      let all : from + q - from ≡ q = omega arith in
      ap (chunks_of after) (tree_is overwritten_whole)
      ∙ done.chunks_are
      ∙ over_replaced bytes q from (from + q) (chunks_of m t) (omega arith) within
      ∙ ap (λ k. replaced from (from + q) (part bytes q 0 k) (chunks_of m t)) all
      ∙ ap (λ (cs : List (List ℕ)). replaced from (from + q) cs (chunks_of m t)) (sym (cut_part bytes))

  pub overwritten_kept : Holds (kept μ) m t → Kept μ after link
  overwritten_kept h = subst (Holds (kept μ) after) (sym (tree_is overwritten_whole)) (done.keeps (kept μ) refl h)

  pub overwritten_size : SameSize m after
  overwritten_size = same_size done.elsewhere
