-- Memory holds a tree: each slot of the tree has its links, its extent and its readings there.
use Rattle.std.specs.Prelude.{◌≡◌, ℕ, ◌+◌, ◌<◌, ◌≤◌, get_or, Option, slice_index_or}
use Rattle.chunks.specs.Tree.{Tree, leaf, node, root, Level}
use Rattle.chunks.specs.Footprint.{one, uses, below}
use Rattle.slots.specs.declared.memory.Memory.{Memory}
use Rattle.slots.specs.declared.slot.Slot.{Slot}
use Rattle.slots.specs.Claim.{Claim, nothing, Says}
use Rattle.slots.specs.View.{size_of, chunk_of, text_of, extent_of, Roomy}

module _ {R : Type 0} (w : Claim R) (m : Memory R) where
  -- What a slot says that is between the trees l and r.
  pub record Placed (l : Tree) (i : ℕ) (r : Tree) (slot : Slot R) : Type 0 where
    pub left : slot.node.left ≡ root l
    pub right : slot.node.right ≡ root r
    pub extent : slot.node.extent ≡ extent_of m (node l i r)
    pub own : Says w slot.own (chunk_of m i)

  -- Slot i is between the trees l and r, which are level. (An element of a list is stated for every default.)
  pub record Here (l : Tree) (i : ℕ) (r : Tree) : Type 0 where
    pub known : i < m.usable
    pub some_byte : 1 ≤ size_of m i
    pub few_bytes : size_of m i ≤ 64
    pub level : Level l r
    pub placed : (d : Slot R) → Placed l i r (slice_index_or m.slots.now i d)
    pub summed : (d : R) → Says w (slice_index_or m.readings.now i d) (text_of m (node l i r))

  abbrev pub Holds : Tree → Type 0
  Holds leaf = Unit {0}
  Holds (node l i r) = Here l i r × (Holds l × Holds r)

  -- A slot keeps the reading of its own chunk.
  pub record Owned (i : ℕ) : Type 0 where
    pub own : (d : Slot R) → Says w (get_or m.slots.now i d).own (chunk_of m i)

-- Slot i, which has a chunk, can be put between two trees that memory holds: no slot counts twice, and all may be used.
pub record Ready {R : Type 0} (m : Memory R) (near : Option ℕ) (a : Tree) (i : ℕ) (far : Option ℕ) (b : Tree) : Type 0 where
  pub roomy : Roomy m
  pub known : i < m.usable
  pub near_root : near ≡ root a
  pub far_root : far ≡ root b
  pub near_holds : Holds nothing m a
  pub far_holds : Holds nothing m b
  pub once : (j : ℕ) → uses a j + (one i j + uses b j) ≤ below m.usable j
  pub some_byte : 1 ≤ size_of m i
  pub few_bytes : size_of m i ≤ 64
