-- The free slots, as a stack inside the slots: each one leads to the next.
use Rattle.std.specs.Prelude.{◌≡◌, ℕ, ◌≤◌, List, [], ◌∷◌, length, get_or, take, drop, Some, None, Option, slice_index_or}
use Rattle.measure.specs.Measure.{Measure}
use Rattle.chunks.specs.Tree.{Tree, leaf, node}
use Rattle.chunks.specs.Footprint.{one, count, uses, below}
use Rattle.slots.specs.declared.memory.Memory.{Memory}
use Rattle.slots.specs.declared.slot.Slot.{Slot}
use Rattle.slots.specs.Claim.{Claim, Fair}
use Rattle.slots.specs.View.{size_of, next_of, chunk_of, chunks_of, Roomy}
use Rattle.slots.specs.Holds.{Holds, Owned}

-- The slots that a link leads to, one after another.
abbrev pub Stack : {R : Type 0} → Memory R → Option ℕ → List ℕ → Type 0
Stack m link [] = link ≡ None
Stack m link (i ∷ is) = (link ≡ Some i) × Stack m (next_of m i) is

-- The free slots are those of a list, each once.
pub record Idle {R : Type 0} (m : Memory R) (is : List ℕ) : Type 0 where
  pub roomy : Roomy m
  pub stack : Stack m m.free is
  pub once : (j : ℕ) → count is j ≤ below m.usable j

-- Elsewhere than in the slots that were touched, all is as it was.
pub record Elsewhere {R : Type 0} (m after : Memory R) (touched : ℕ → ℕ) : Type 0 where
  pub usable : after.usable ≡ m.usable
  pub slot_count : length after.slots.now ≡ length m.slots.now
  pub reading_count : length after.readings.now ≡ length m.readings.now
  pub store_count : length after.store.now ≡ length m.store.now
  pub slot_same : (j : ℕ) → touched j ≡ 0 → (d : Slot R) → slice_index_or after.slots.now j d ≡ slice_index_or m.slots.now j d
  pub reading_same : (j : ℕ) → touched j ≡ 0 → (d : R) → slice_index_or after.readings.now j d ≡ slice_index_or m.readings.now j d
  pub chunk_same : (j : ℕ) → touched j ≡ 0 → size_of m j ≤ 64 → chunk_of after j ≡ chunk_of m j

-- The slots of a tree on top of free ones, in the order in which they are given back.
abbrev pub freed : Tree → List ℕ → List ℕ
freed leaf is = is
freed (node l i r) is = i ∷ freed r (freed l is)

-- A chunk and its reading were written into slot i, and nothing else.
pub record Written {R : Type 0} (m : Memory R) (i : ℕ) (bytes : List ℕ) (own : R) (after : Memory R) : Type 0 where
  pub elsewhere : Elsewhere m after (one i)
  pub free : after.free ≡ m.free
  pub chunk_is : chunk_of after i ≡ bytes
  pub size_is : size_of after i ≡ length bytes
  pub own_is : (d : Slot R) → (get_or after.slots.now i d).own ≡ own

-- A slot was taken from the free ones and has a chunk now.
pub record Stored {R : Type 0} (μ : Measure R) (m : Memory R) (i : ℕ) (is : List ℕ) (bytes : List ℕ) (after : Memory R) : Type 0 where
  pub elsewhere : Elsewhere m after (one i)
  pub stack : Stack after after.free is
  pub chunk_is : chunk_of after i ≡ bytes
  pub size_is : size_of after i ≡ length bytes
  pub owned : (w : Claim R) → Fair w μ → Owned w after i

-- A tree was made of n free slots, with the given chunks.
pub record Built {R : Type 0} (μ : Measure R) (m : Memory R) (is : List ℕ) (n : ℕ) (chunks : List (List ℕ)) (after : Memory R) (t : Tree) : Type 0 where
  pub elsewhere : Elsewhere m after (count (take n is))
  pub stack : Stack after after.free (drop n is)
  pub used : (j : ℕ) → uses t j ≡ count (take n is) j
  pub chunks_are : chunks_of after t ≡ chunks
  pub holds : (w : Claim R) → Fair w μ → Holds w after t
