-- A slot put between two trees: what memory holds then.
use Rattle.std.specs.Prelude.{◌≡◌, ℕ, suc, ◌+◌, ◌<◌, ◌≤◌, max, get_or, Some, None, Option, slice_index_or}
use Rattle.measure.specs.Measure.{Measure}
use Rattle.chunks.specs.declared.side.Side.{Side}
use Rattle.chunks.specs.Tree.{Tree, root, slots, height}
use Rattle.chunks.specs.Footprint.{one, uses}
use Rattle.chunks.specs.Sides.{around, run}
use Rattle.slots.specs.declared.memory.Memory.{Memory}
use Rattle.slots.specs.declared.slot.Slot.{Slot}
use Rattle.slots.specs.declared.slot.Node.{Node}
use Rattle.slots.specs.Claim.{Claim, Fair}
use Rattle.slots.specs.Holds.{Holds, Owned, Ready}
use Rattle.slots.specs.Frame.{Frame}

-- Whatever is claimed of the readings of two trees and of the slot between them is true of the whole.
abbrev pub Keeps : {R : Type 0} → Measure R → Memory R → Tree → ℕ → Tree → Memory R → Tree → Type 0
Keeps {R} μ m a i b after t = (w : Claim R) → Fair w μ → Holds w m a → Holds w m b → Owned w m i → Holds w after t

-- A slot's place and the reading of what lies under it were written, and nothing else.
pub record PlacedAnew {R : Type 0} (m : Memory R) (i : ℕ) (place : Node) (sum : R) (after : Memory R) : Type 0 where
  pub frame : Frame m after (one i)
  pub place_is : (d : Slot R) → (get_or after.slots.now i d).node ≡ place
  pub sum_is : (d : R) → slice_index_or after.readings.now i d ≡ sum

-- Slot i was put right between a, on side s of it, and b; no other slot was touched.
pub record Linked {R : Type 0} (μ : Measure R) (s : Side) (m : Memory R) (a : Tree) (i : ℕ) (b : Tree) (after : Memory R) : Type 0 where
  pub frame : Frame m after (one i)
  pub keeps : Keeps μ m a i b after (around s a i b)

-- The tree t has all slots of a, then i, then those of b, seen from side s; it is at least as high as both, and at most one higher.
pub record Joined {R : Type 0} (μ : Measure R) (s : Side) (m : Memory R) (a : Tree) (i : ℕ) (b : Tree) (after : Memory R) (t : Tree) : Type 0 where
  pub frame : Frame m after (λ j. uses a j + (one i j + uses b j))
  pub order : slots t ≡ run s (slots a) i (slots b)
  pub over_near : height a ≤ height t
  pub over_far : height b ≤ height t
  pub high : (n : ℕ) → height a ≤ n → height b ≤ n → height t ≤ suc n
  pub keeps : Keeps μ m a i b after t

-- The same of trees of which b may be two higher than a; where it is not, the height is known.
pub record Settled {R : Type 0} (μ : Measure R) (s : Side) (m : Memory R) (a : Tree) (i : ℕ) (b : Tree) (after : Memory R) (t : Tree) : Type 0 where
  pub joined : Joined μ s m a i b after t
  pub exact : height b ≤ suc (height a) → height t ≡ suc (max (height a) (height b))

-- The tree of slot k, between o and n, is two higher than b.
pub record Leaning {R : Type 0} (m : Memory R) (s : Side) (outer : Option ℕ) (o : Tree) (k : ℕ) (inner : Option ℕ) (n : Tree) (i : ℕ) (short : Option ℕ) (b : Tree) : Type 0 where
  pub ready : Ready m (Some k) (around s o k n) i short b
  pub outer_root : outer ≡ root o
  pub inner_root : inner ≡ root n
  pub two_higher : height (around s o k n) ≡ suc (suc (height b))

-- The tree b may have grown to be two higher than a, which is at most one higher than b.
pub record Grown {R : Type 0} (m : Memory R) (near : Option ℕ) (a : Tree) (i : ℕ) (far : Option ℕ) (b : Tree) : Type 0 where
  pub ready : Ready m near a i far b
  pub far_low : height b ≤ suc (suc (height a))
  pub near_low : height a ≤ suc (height b)

-- The top of a tree n, where it is higher than o by more than `by`.
abbrev pub Steep : Tree → Tree → ℕ → Option ℕ → Type 0
Steep n o by (Some j) = (Some j ≡ root n) × (by + height o < height n)
Steep n o by None = height n ≤ by + height o
