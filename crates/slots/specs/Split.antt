-- A tree cut at a place in its order, and two trees put behind each other.
use Rattle.std.specs.Prelude.{◌≡◌, ℕ, ◌+◌, ◌≤◌, ◌++◌, take, drop, Option}
use Rattle.measure.specs.Measure.{Measure}
use Rattle.chunks.specs.Tree.{Tree, root, slots}
use Rattle.chunks.specs.Footprint.{uses, below}
use Rattle.slots.specs.declared.memory.Memory.{Memory}
use Rattle.slots.specs.Claim.{Claim, nothing, Fair}
use Rattle.slots.specs.View.{Roomy}
use Rattle.slots.specs.Holds.{Holds}
use Rattle.slots.specs.Frame.{Frame}

-- A link leads to a tree that memory holds, each slot of it once.
pub record Held {R : Type 0} (m : Memory R) (link : Option ℕ) (t : Tree) : Type 0 where
  pub roomy : Roomy m
  pub root_is : link ≡ root t
  pub holds : Holds nothing m t
  pub once : (j : ℕ) → uses t j ≤ below m.usable j

-- Two links lead to two such trees, and no slot is in both.
pub record Apart {R : Type 0} (m : Memory R) (first : Option ℕ) (a : Tree) (rest : Option ℕ) (b : Tree) : Type 0 where
  pub roomy : Roomy m
  pub first_root : first ≡ root a
  pub rest_root : rest ≡ root b
  pub first_holds : Holds nothing m a
  pub rest_holds : Holds nothing m b
  pub once : (j : ℕ) → uses a j + uses b j ≤ below m.usable j

-- The first slots of t, as many as `at`, are those of a; the others are those of b.
pub record Halved {R : Type 0} (μ : Measure R) (m : Memory R) (t : Tree) (at : ℕ) (after : Memory R) (a b : Tree) : Type 0 where
  pub frame : Frame m after (uses t)
  pub front : slots a ≡ take at (slots t)
  pub back : slots b ≡ drop at (slots t)
  pub keeps : (w : Claim R) → Fair w μ → Holds w m t → Holds w after a × Holds w after b

-- The tree t has the slots of a and then those of b.
pub record Appended {R : Type 0} (μ : Measure R) (m : Memory R) (a b : Tree) (after : Memory R) (t : Tree) : Type 0 where
  pub frame : Frame m after (λ j. uses a j + uses b j)
  pub order : slots t ≡ slots a ++ slots b
  pub keeps : (w : Claim R) → Fair w μ → Holds w m a → Holds w m b → Holds w after t
