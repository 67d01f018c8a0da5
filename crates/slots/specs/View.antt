-- What lent memory says of a slot: the length of its chunk, its bytes in the store, the next free slot.
use Rattle.std.specs.Prelude.{ℕ, ◌*◌, ◌<◌, ◌≤◌, List, map, length, take, drop, Some, None, Option, slice_index, slice_index_or}
use Rattle.chunks.specs.Tree.{Tree, slots, height}
use Rattle.chunks.specs.Cut.{joined}
use Rattle.slots.specs.declared.memory.Memory.{Memory}
use Rattle.slots.specs.declared.slot.Extent.{Extent}

module _ {R : Type 0} (m : Memory R) where
  abbrev pub size_of : ℕ → ℕ
  size_of i = slice_index (map (λ s. s.size) m.slots.now) i

  abbrev pub next_of : ℕ → Option ℕ
  next_of i = slice_index_or (map (λ s. s.next) m.slots.now) i None

  -- Slot i has 64 bytes of the store, from 64 × i on; its chunk is at their front.
  abbrev pub chunk_of : ℕ → List ℕ
  chunk_of i = take (size_of i) (drop (64 * i) m.store.now)

  -- The chunks of a tree, in order, and their bytes.
  abbrev pub chunks_of : Tree → List (List ℕ)
  chunks_of t = map chunk_of (slots t)

  abbrev pub text_of : Tree → List ℕ
  text_of t = joined (chunks_of t)

  abbrev pub extent_of : Tree → Extent
  extent_of t = record { height = height t; bytes = length (text_of t); chunks = length (slots t) }

  -- The height that memory says of the tree that a link leads to.
  abbrev pub height_at : Option ℕ → ℕ
  height_at None = 0
  height_at (Some i) = slice_index (map (λ s. s.node.extent.height) m.slots.now) i

  -- Memory has room for what may be used.
  pub record Roomy : Type 0 where
    pub few : m.usable ≤ 4096
    pub slot_each : m.usable ≤ length m.slots.now
    pub reading_each : m.usable ≤ length m.readings.now
    pub store_each : 64 * m.usable ≤ length m.store.now

  -- Slot i may be used, and memory has room for it.
  abbrev pub Usable : ℕ → Type 0
  Usable i = Roomy × (i < m.usable)
