-- What follows from a tree that memory holds: it is balanced and low, it stays under a frame, its root is known.
use Rattle.std.proofs.Common.{◌≡◌, ℕ, ◌+◌, ◌*◌, ◌<◌, ◌≤◌, List, ◌∷◌, ◌++◌, length, Option, sym, ap, ◌∙◌, subst, arith}
use Rattle.std.proofs.lemmas.List.{length-append}
use Rattle.chunks.specs.Tree.{Tree, leaf, node, slots, root, height, Balanced}
use Rattle.chunks.specs.Footprint.{one, uses, below}
use Rattle.chunks.proofs.Footprint.{few_below}
use Rattle.chunks.proofs.Balance.{low_if_balanced}
use Rattle.slots.specs.declared.memory.Memory.{Memory}
use Rattle.slots.specs.Claim.{Claim, nothing}
use Rattle.slots.specs.View.{size_of, chunk_of, text_of, Roomy}
use Rattle.slots.specs.Holds.{Holds, Owned, Ready}
use Rattle.slots.specs.Frame.{Frame}
use Rattle.slots.proofs.Says.{says_same}
use Rattle.slots.proofs.Text.{text_node, chunk_length}
use Rattle.slots.proofs.Frame.{chunk_same, size_same, own_same, roomy_same}
use Rattle.slots.proofs.Elsewhere.{elsewhere_frame, holds_elsewhere}

module _ {R : Type 0} where
  pub balanced_held : (w : Claim R) (m : Memory R) (t : Tree) → Holds w m t → Balanced t
  balanced_held w m leaf h = tt
  balanced_held w m (node l i r) (here, (hl, hr)) = (here.level, (balanced_held w m l hl, balanced_held w m r hr))

  -- A tree whose slots all may be used, each once, is low.
  pub low_held : (w : Claim R) (m : Memory R) → Roomy m → (t : Tree) → Holds w m t → ((j : ℕ) → uses t j ≤ below m.usable j) → height t ≤ 16
  low_held w m roomy t h once = let few = roomy.few in low_if_balanced t (balanced_held w m t h) (omega (arith, few_below m.usable (slots t) once))

  -- A chunk has at most 64 bytes.
  pub short_held : (w : Claim R) (m : Memory R) → Roomy m → (t : Tree) → Holds w m t → length (text_of m t) ≤ 64 * length (slots t)
  short_held w m roomy leaf h = omega arith
  short_held w m roomy (node l i r) (here, (hl, hr)) =
      let long = ap length (text_node m l i r) ∙ length-append (text_of m l) (chunk_of m i ++ text_of m r) in
      let rest = length-append (chunk_of m i) (text_of m r) in
      let count = length-append (slots l) (i ∷ slots r) in
      let own = chunk_length m roomy i here.known here.few_bytes in
      let few = here.few_bytes in
      omega (arith, short_held w m roomy l hl, short_held w m roomy r hr)

  pub holds_frame : (w : Claim R) (m n : Memory R) (f : ℕ → ℕ) → Frame m n f → (t : Tree) → ((j : ℕ) → uses t j + f j ≤ 1) → Holds w m t → Holds w n t
  holds_frame w m n f p t apart h = holds_elsewhere m n f (elsewhere_frame m n f p) w t apart h

  pub owned_frame : (w : Claim R) (m n : Memory R) (f : ℕ → ℕ) → Frame m n f → (i : ℕ) → Owned w m i → Owned w n i
  owned_frame w m n f p i owned = record { own = λ d. says_same w _ _ _ _ (sym (own_same m n f p i d)) (sym (ap (λ (c : ℕ → List ℕ). c i) (chunk_same m n f p))) (owned.own d) }

  -- A slot can be put between two trees after a frame, if it could be used before.
  pub ready_frame : (m n : Memory R) (f : ℕ → ℕ) → Frame m n f → Roomy m → (i : ℕ) → (i < m.usable) × ((1 ≤ size_of m i) × (size_of m i ≤ 64)) → {near far : Option ℕ} {a b : Tree} → near ≡ root a → far ≡ root b →
      Holds nothing n a → Holds nothing n b → ((j : ℕ) → uses a j + (one i j + uses b j) ≤ below m.usable j) → Ready n near a i far b
  ready_frame m n f p roomy i own {near} {far} {a} {b} e g ha hb once =
      let size = size_same m n f p i in
      record {
        roomy = roomy_same m n f p roomy;
        known = subst (λ z. i < z) (sym p.usable) own.0;
        near_root = e;
        far_root = g;
        near_holds = ha;
        far_holds = hb;
        once = λ j. subst (λ z. uses a j + (one i j + uses b j) ≤ below z j) (sym p.usable) (once j);
        some_byte = subst (λ z. 1 ≤ z) (sym size) own.1.0;
        few_bytes = subst (λ z. z ≤ 64) (sym size) own.1.1;
      }
