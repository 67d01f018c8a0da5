-- The text of a tree, put together from its sides; how long it can be.
use Rattle.std.proofs.Common.{◌≡◌, ℕ, ◌*◌, ◌<◌, ◌≤◌, ◌∷◌, ◌++◌, length, get_or, drop, sym, ap, ◌∙◌, arith}
use Rattle.std.proofs.lemmas.List.{map-append, length-take-le, length-drop, get_or-map}
use Rattle.chunks.specs.Tree.{Tree, node, slots}
use Rattle.chunks.specs.Cut.{joined}
use Rattle.chunks.proofs.Joined.{joined_append}
use Rattle.slots.specs.declared.memory.Memory.{Memory}
use Rattle.slots.specs.declared.slot.Slot.{Slot}
use Rattle.slots.specs.View.{size_of, chunk_of, chunks_of, text_of, Roomy}

module _ {R : Type 0} (m : Memory R) where
  pub chunks_node : (l : Tree) (i : ℕ) (r : Tree) → chunks_of m (node l i r) ≡ chunks_of m l ++ (chunk_of m i ∷ chunks_of m r)
  chunks_node l i r = map-append (chunk_of m) (slots l) (i ∷ slots r)

  pub text_node : (l : Tree) (i : ℕ) (r : Tree) → text_of m (node l i r) ≡ text_of m l ++ (chunk_of m i ++ text_of m r)
  text_node l i r = ap joined (chunks_node l i r) ∙ joined_append (chunks_of m l) (chunk_of m i ∷ chunks_of m r)

  -- The length that a slot says is that of its chunk.
  pub chunk_length : Roomy m → (i : ℕ) → i < m.usable → size_of m i ≤ 64 → length (chunk_of m i) ≡ size_of m i
  chunk_length roomy i known few =
      let at = length-drop (64 * i) m.store.now in
      let room = roomy.store_each in
      length-take-le (size_of m i) (drop (64 * i) m.store.now) (omega arith)

  pub size_read : Roomy m → (i : ℕ) → i < m.usable → (d : Slot R) → (get_or m.slots.now i d).size ≡ size_of m i
  size_read roomy i known d = let room = roomy.slot_each in sym (get_or-map (λ (s : Slot R). s.size) m.slots.now i d 0 (omega arith))
