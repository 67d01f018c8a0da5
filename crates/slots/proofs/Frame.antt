-- Frames put together, and what stays true under one.
use Rattle.std.proofs.Common.{◌≡◌, ℕ, ◌+◌, ◌*◌, ◌<◌, List, map, length, get_or, take, drop, set, sym, refl, ap, ◌∙◌, arith}
use Rattle.std.proofs.lemmas.List.{length-set, get_or-set_other}
use Rattle.std.proofs.Math.ListN.{get_or-map}
use Rattle.std.proofs.Math.Seq.{map-set_same}
use Rattle.chunks.specs.Tree.{Tree, slots, height}
use Rattle.chunks.specs.Footprint.{one}
use Rattle.chunks.specs.Cut.{joined}
use Rattle.chunks.proofs.Footprint.{one_other}
use Rattle.slots.specs.declared.memory.Memory.{Memory}
use Rattle.slots.specs.declared.slot.Slot.{Slot}
use Rattle.slots.specs.View.{chunk_of, chunks_of, text_of, extent_of, size_of, Roomy}
use Rattle.slots.specs.Frame.{Frame}

module _ {R : Type 0} where
  pub frame_trans : (m n o : Memory R) (f g : ℕ → ℕ) → Frame m n f → Frame n o g → Frame m o (λ j. f j + g j)
  frame_trans m n o f g p q = record {
    usable = q.usable ∙ p.usable;
    free = q.free ∙ p.free;
    store = q.store ∙ p.store;
    slot_count = q.slot_count ∙ p.slot_count;
    reading_count = q.reading_count ∙ p.reading_count;
    sizes = q.sizes ∙ p.sizes;
    nexts = q.nexts ∙ p.nexts;
    owns = q.owns ∙ p.owns;
    slots_apart = λ j h d. q.slots_apart j (omega arith) d ∙ p.slots_apart j (omega arith) d;
    readings_apart = λ j h d. q.readings_apart j (omega arith) d ∙ p.readings_apart j (omega arith) d;
  }

  -- A frame that lets more slots be touched.
  pub frame_more : (m n : Memory R) (f g : ℕ → ℕ) → ((j : ℕ) → g j ≡ 0 → f j ≡ 0) → Frame m n f → Frame m n g
  frame_more m n f g h p = record {
    usable = p.usable;
    free = p.free;
    store = p.store;
    slot_count = p.slot_count;
    reading_count = p.reading_count;
    sizes = p.sizes;
    nexts = p.nexts;
    owns = p.owns;
    slots_apart = λ j e. p.slots_apart j (h j e);
    readings_apart = λ j e. p.readings_apart j (h j e);
  }

  module _ (m n : Memory R) (f : ℕ → ℕ) (p : Frame m n f) where
    pub chunk_same : chunk_of n ≡ chunk_of m
    chunk_same =
        let by_size : List ℕ → ℕ → List ℕ = λ z i. take (get_or z i 0) (drop (64 * i) n.store.now) in
        let by-store : List ℕ → ℕ → List ℕ = λ z i. take (size_of m i) (drop (64 * i) z) in
        ap by_size p.sizes ∙ ap by-store p.store

    pub size_same : (i : ℕ) → size_of n i ≡ size_of m i
    size_same i = ap (λ (z : List ℕ). get_or z i 0) p.sizes

    pub chunks_same : (t : Tree) → chunks_of n t ≡ chunks_of m t
    chunks_same t = ap (λ (chunk : ℕ → List ℕ). map chunk (slots t)) chunk_same

    pub text_same : (t : Tree) → text_of n t ≡ text_of m t
    text_same t = ap joined (chunks_same t)

    pub extent_same : (t : Tree) → extent_of n t ≡ extent_of m t
    extent_same t = ap (λ (k : ℕ). record { height = height t; bytes = k; chunks = length (slots t) }) (ap length (text_same t))

    pub roomy_same : Roomy m → Roomy n
    roomy_same roomy =
        let store = ap length p.store in
        let u = p.usable in
        let s = p.slot_count in
        let r = p.reading_count in
        record { few = omega arith; slot_each = omega arith; reading_each = omega arith; store_each = omega arith }

    pub own_same : (i : ℕ) (d : Slot R) → (get_or n.slots.now i d).own ≡ (get_or m.slots.now i d).own
    own_same i d = sym (get_or-map (λ (s : Slot R). s.own) n.slots.now i d) ∙ ap (λ (z : List R). get_or z i d.own) p.owns ∙ get_or-map (λ (s : Slot R). s.own) m.slots.now i d

  -- One slot and one reading written, the slot's chunk, own reading and free link as they were.
  pub frame_written : (m n : Memory R) (i : ℕ) (slot : Slot R) (v : R) → i < length m.slots.now →
      n.slots.now ≡ set m.slots.now i slot → n.readings.now ≡ set m.readings.now i v → n.store.now ≡ m.store.now → n.usable ≡ m.usable → n.free ≡ m.free →
      slot.size ≡ (get_or m.slots.now i slot).size → slot.next ≡ (get_or m.slots.now i slot).next → slot.own ≡ (get_or m.slots.now i slot).own →
      Frame m n (one i)
  frame_written m n i slot v within slots readings store usable free size next own = record {
    usable = usable;
    free = free;
    store = store;
    slot_count = ap length slots ∙ length-set m.slots.now i slot;
    reading_count = ap length readings ∙ length-set m.readings.now i v;
    sizes = ap (map (λ s. s.size)) slots ∙ map-set_same (λ (s : Slot R). s.size) m.slots.now i slot slot size;
    nexts = ap (map (λ s. s.next)) slots ∙ map-set_same (λ (s : Slot R). s.next) m.slots.now i slot slot next;
    owns = ap (map (λ s. s.own)) slots ∙ map-set_same (λ (s : Slot R). s.own) m.slots.now i slot slot own;
    slots_apart = λ j h d. ap (λ (z : List (Slot R)). get_or z j d) slots ∙ get_or-set_other m.slots.now i j slot d (λ e. one_other i j h (sym e));
    readings_apart = λ j h d. ap (λ (z : List R). get_or z j d) readings ∙ get_or-set_other m.readings.now i j v d (λ e. one_other i j h (sym e));
  }

  -- Where nothing was done, everything is as it was.
  pub frame_none : (m : Memory R) (f : ℕ → ℕ) → Frame m m f
  frame_none m f = record {
    usable = refl;
    free = refl;
    store = refl;
    slot_count = refl;
    reading_count = refl;
    sizes = refl;
    nexts = refl;
    owns = refl;
    slots_apart = λ j e d. refl;
    readings_apart = λ j e d. refl;
  }
