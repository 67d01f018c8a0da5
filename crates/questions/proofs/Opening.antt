-- A subtree taken apart at its top slot: what memory says there of its sides, its chunk and its readings.
use Rattle.std.proofs.Common.{◌≡◌, ℕ, ◌<◌, ◌≤◌, [], ◌∷◌, ◌++◌, length, get_or, Some, None, Option, sym, ap, ◌∙◌, subst, arith}
use Rattle.std.proofs.lemmas.List.{length-map}
use Rattle.measure.specs.Measure.{Measure, reading}
use Rattle.chunks.specs.Tree.{Tree, node, slots, height}
use Rattle.chunks.proofs.Sides.{leaf_if_none}
use Rattle.slots.specs.declared.memory.Memory.{Memory}
use Rattle.slots.specs.declared.slot.Slot.{Slot}
use Rattle.slots.specs.Claim.{kept}
use Rattle.slots.specs.Holds.{Holds}
use Rattle.slots.specs.Sound.{tree_of, chunks_in, Kept}
use Rattle.slots.specs.View.{size_of, chunk_of, chunks_of, text_of}
use Rattle.slots.proofs.Joining.{node_higher}
use Rattle.slots.proofs.Reading.{read_is, held_read, held_kept}
use Rattle.slots.proofs.Rangewise.{kept_top, slots_few}
use Rattle.slots.proofs.Splitting.{sides, held_left, held_right}
use Rattle.slots.proofs.Text.{chunks_node, chunk_length, size_read}
use Rattle.questions.specs.Leads.{Leads}

-- Nothing lies under no link.
pub no_chunks : {R : Type 0} {m : Memory R} {link : Option ℕ} → Leads m link → link ≡ None → chunks_in m link ≡ []
no_chunks {m} {link} leads none = let held = held_read m link leads in ap (chunks_of m) (leaf_if_none (tree_of m link) (sym none ∙ held.root_is))

-- A link leads to a slot that memory has.
pub within : {R : Type 0} {m : Memory R} {link : Option ℕ} {i : ℕ} → Leads m link → link ≡ Some i → (i < length m.slots.now) × (i < length m.readings.now)
within {m} {link} leads is =
    let held = held_read m link leads in
    let known = (sides is held).1.1.1.holds.0.known in
    let slot_each = held.roomy.slot_each in
    let reading_each = held.roomy.reading_each in
    (omega arith, omega arith)

-- What the top slot says, where a link leads to one.
pub record Top {R : Type 0} (m : Memory R) (link : Option ℕ) (i : ℕ) (s : Slot R) : Type 0 where
  pub some_byte : 1 ≤ s.size
  pub few_bytes : s.size ≤ 64
  pub chunk_long : length (chunk_of m i) ≡ s.size
  pub left_leads : Leads m s.node.left
  pub right_leads : Leads m s.node.right
  pub chunks : chunks_in m link ≡ chunks_in m s.node.left ++ (chunk_of m i ∷ chunks_in m s.node.right)
  pub few : length (chunks_in m link) ≤ 4096
  pub left_lower : height (tree_of m s.node.left) < height (tree_of m link)
  pub right_lower : height (tree_of m s.node.right) < height (tree_of m link)
  pub left_keeps : (μ : Measure R) → Kept μ m link → Kept μ m s.node.left
  pub own_kept : (μ : Measure R) → Kept μ m link → s.own ≡ reading μ (chunk_of m i)
  pub right_keeps : (μ : Measure R) → Kept μ m link → Kept μ m s.node.right

pub top : {R : Type 0} {m : Memory R} {link : Option ℕ} {i : ℕ} → Leads m link → link ≡ Some i → (s : Slot R) → s ≡ get_or m.slots.now i s → Top m link i s
top {R} {m} {link} {i} leads is s s-is =
    let held = held_read m link leads in
    let v = sides is held in
    let l = v.0 in
    let r = v.1.0 in
    let here = v.1.1.1.holds.0 in
    let placed = here.placed s in
    let left = held_left v.1.1.1 s.node.left (ap (λ (x : Slot R). x.node.left) s-is ∙ placed.left) in
    let right = held_right v.1.1.1 s.node.right (ap (λ (x : Slot R). x.node.right) s-is ∙ placed.right) in
    let sized : s.size ≡ size_of m i = ap (λ (x : Slot R). x.size) s-is ∙ size_read m held.roomy i here.known s in
    let known = here.known in
    let low = here.some_byte in
    let high = here.few_bytes in
    let room = held.roomy in
    let higher = node_higher v.1.1.0 in
    let left-is : tree_of m s.node.left ≡ l = read_is left in
    let right-is : tree_of m s.node.right ≡ r = read_is right in
    let opened : (μ : Measure R) → Kept μ m link → Holds (kept μ) m (node l i r) = λ μ k. subst (λ (z : Tree). Holds (kept μ) m z) v.1.1.0 k in
    record {
      some_byte = omega arith;
      few_bytes = omega arith;
      chunk_long = chunk_length m room i known high ∙ sym sized;
      left_leads = held_kept left;
      right_leads = held_kept right;
      chunks =
          ap (chunks_of m) v.1.1.0
          ∙ chunks_node m l i r
          ∙ ap (λ (z : Tree). chunks_of m z ++ (chunk_of m i ∷ chunks_of m r)) (sym left-is)
          ∙ ap (λ (z : Tree). chunks_in m s.node.left ++ (chunk_of m i ∷ chunks_of m z)) (sym right-is);
      few = omega (arith, length-map (slots (tree_of m link)) (chunk_of m), slots_few held);
      left_lower = omega (arith, ap height left-is, higher.0);
      right_lower = omega (arith, ap height right-is, higher.1);
      left_keeps = λ μ k. subst (λ (z : Tree). Holds (kept μ) m z) (sym left-is) (opened μ k).1.0;
      own_kept = λ μ k. ap (λ (x : Slot R). x.own) s-is ∙ ((opened μ k).0.placed s).own;
      right_keeps = λ μ k. subst (λ (z : Tree). Holds (kept μ) m z) (sym right-is) (opened μ k).1.1;
    }

-- The reading kept at the top.
pub top_kept : {R : Type 0} {m : Memory R} {link : Option ℕ} {i : ℕ} → Leads m link → link ≡ Some i → (v : R) → v ≡ get_or m.readings.now i v → (μ : Measure R) → Kept μ m link → v ≡ reading μ (text_of m (tree_of m link))
top_kept {m} {link} {i} leads is v v-is μ k = let held = held_read m link leads in kept_top μ m (tree_of m link) i (sym is ∙ held.root_is) k v v-is
