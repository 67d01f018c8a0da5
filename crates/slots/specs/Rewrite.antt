-- Chunks of a tree written over in their slots, the tree being as it was.
use Rattle.std.specs.Prelude.{◌≡◌, ℕ, ◌≤◌, List}
use Rattle.measure.specs.Measure.{Measure}
use Rattle.chunks.specs.Tree.{Tree}
use Rattle.chunks.specs.Footprint.{one, uses}
use Rattle.chunks.specs.Over.{renewed, over}
use Rattle.slots.specs.declared.memory.Memory.{Memory}
use Rattle.slots.specs.Claim.{Claim, Fair}
use Rattle.slots.specs.View.{size_of, chunk_of, chunks_of}
use Rattle.slots.specs.Holds.{Holds, Owned}
use Rattle.slots.specs.Free.{Elsewhere}

-- The chunk of slot i, which is in place n, was written over where the run has that place.
pub record Renewed {R : Type 0} (μ : Measure R) (m : Memory R) (i n : ℕ) (bytes : List ℕ) (count from to : ℕ) (after : Memory R) : Type 0 where
  pub elsewhere : Elsewhere m after (one i)
  pub free : after.free ≡ m.free
  pub chunk_is : chunk_of after i ≡ renewed bytes count from to n (chunk_of m i)
  pub some_byte : 1 ≤ size_of after i
  pub few_bytes : size_of after i ≤ 64
  pub keeps : (w : Claim R) → Fair w μ → Owned w m i → Owned w after i

-- The chunks of a tree, of which the first is in place n.
pub record Rewritten {R : Type 0} (μ : Measure R) (m : Memory R) (t : Tree) (n : ℕ) (bytes : List ℕ) (count from to : ℕ) (after : Memory R) : Type 0 where
  pub elsewhere : Elsewhere m after (uses t)
  pub free : after.free ≡ m.free
  pub chunks_are : chunks_of after t ≡ over bytes count from to n (chunks_of m t)
  pub keeps : (w : Claim R) → Fair w μ → Holds w m t → Holds w after t
