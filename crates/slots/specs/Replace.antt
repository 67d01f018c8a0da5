-- A whole memory: one tree, and all other usable slots free. A run of its chunks taken out, and others put in.
use Rattle.std.specs.Prelude.{◌≡◌, ℕ, ◌+◌, List, ◌++◌, length, take, drop, Option}
use Rattle.measure.specs.Measure.{Measure}
use Rattle.chunks.specs.Tree.{Tree, root}
use Rattle.chunks.specs.Footprint.{uses, count, below}
use Rattle.chunks.specs.Cut.{cut}
use Rattle.slots.specs.declared.memory.Memory.{Memory}
use Rattle.slots.specs.Claim.{Claim, nothing, Fair}
use Rattle.slots.specs.View.{chunks_of, Roomy}
use Rattle.slots.specs.Holds.{Holds}
use Rattle.slots.specs.Free.{Stack}

-- Memory holds a tree, and every usable slot is in it once or free once.
pub record Whole {R : Type 0} (m : Memory R) (link : Option ℕ) (t : Tree) (is : List ℕ) : Type 0 where
  pub roomy : Roomy m
  pub root_is : link ≡ root t
  pub holds : Holds nothing m t
  pub stack : Stack m m.free is
  pub all : (j : ℕ) → uses t j + count is j ≡ below m.usable j

-- The same of two trees.
pub record Parted {R : Type 0} (m : Memory R) (first : Option ℕ) (a : Tree) (rest : Option ℕ) (b : Tree) (is : List ℕ) : Type 0 where
  pub roomy : Roomy m
  pub first_root : first ≡ root a
  pub rest_root : rest ≡ root b
  pub first_holds : Holds nothing m a
  pub rest_holds : Holds nothing m b
  pub stack : Stack m m.free is
  pub all : (j : ℕ) → uses a j + uses b j + count is j ≡ below m.usable j

-- The lent slices are as long as they were, and as many slots may be used.
pub record SameSize {R : Type 0} (m after : Memory R) : Type 0 where
  pub usable : after.usable ≡ m.usable
  pub slot_count : length after.slots.now ≡ length m.slots.now
  pub reading_count : length after.readings.now ≡ length m.readings.now
  pub store_count : length after.store.now ≡ length m.store.now

-- The chunks from `from` up to `to` were taken out: a has those before them, b those behind.
pub record Removed {R : Type 0} (μ : Measure R) (m : Memory R) (t : Tree) (from to : ℕ) (after : Memory R) (a b : Tree) : Type 0 where
  pub same_size : SameSize m after
  pub before : chunks_of after a ≡ take from (chunks_of m t)
  pub behind : chunks_of after b ≡ drop to (chunks_of m t)
  pub keeps : (w : Claim R) → Fair w μ → Holds w m t → Holds w after a × Holds w after b

-- The chunks that bytes are cut into were put between the chunks of a and b.
pub record Filled {R : Type 0} (μ : Measure R) (m : Memory R) (a b : Tree) (bytes : List ℕ) (after : Memory R) (t : Tree) : Type 0 where
  pub same_size : SameSize m after
  pub chunks_are : chunks_of after t ≡ chunks_of m a ++ (cut bytes ++ chunks_of m b)
  pub keeps : (w : Claim R) → Fair w μ → Holds w m a → Holds w m b → Holds w after t
