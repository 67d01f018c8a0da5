-- The tree that memory holds and the slots that are free, read off memory: what is left to the program has these names.
use Rattle.std.specs.Prelude.{ℕ, zero, suc, List, [], ◌∷◌, map, Some, None, Option, slice_index_or}
use Rattle.chunks.specs.Tree.{Tree, leaf, node}
use Rattle.slots.specs.declared.memory.Memory.{Memory}
use Rattle.measure.specs.Measure.{Measure}
use Rattle.slots.specs.Claim.{kept}
use Rattle.slots.specs.View.{next_of, height_at, chunks_of}
use Rattle.slots.specs.Holds.{Holds}
use Rattle.slots.specs.Replace.{Whole}

module _ {R : Type 0} (m : Memory R) where
  abbrev pub left_of : ℕ → Option ℕ
  left_of i = slice_index_or (map (λ s. s.node.left) m.slots.now) i None

  abbrev pub right_of : ℕ → Option ℕ
  right_of i = slice_index_or (map (λ s. s.node.right) m.slots.now) i None

  -- The tree that a link leads to, as far as n steps down.
  unfoldable pub read : ℕ → Option ℕ → Tree
  read zero link = leaf
  read (suc n) None = leaf
  read (suc n) (Some i) = node (read n (left_of i)) i (read n (right_of i))

  -- The slots that a link of the free stack leads to, n at most.
  unfoldable pub read_free : ℕ → Option ℕ → List ℕ
  read_free zero link = []
  read_free (suc n) None = []
  read_free (suc n) (Some i) = i ∷ read_free n (next_of m i)

  unfoldable pub tree_of : Option ℕ → Tree
  tree_of link = read (height_at m link) link

  unfoldable pub free_of : List ℕ
  free_of = read_free m.usable m.free

-- Memory holds one tree; every usable slot is in it once or free once.
abbrev pub Sound : {R : Type 0} → Memory R → Option ℕ → Type 0
Sound m link = ∥ Whole m link (tree_of m link) (free_of m) ∥₁

-- The chunks that memory holds, in order; and that every slot keeps the meter's reading of exactly the bytes under it.
abbrev pub chunks_in : {R : Type 0} → Memory R → Option ℕ → List (List ℕ)
chunks_in m link = chunks_of m (tree_of m link)

abbrev pub Kept : {R : Type 0} → Measure R → Memory R → Option ℕ → Type 0
Kept μ m link = Holds (kept μ) m (tree_of m link)
