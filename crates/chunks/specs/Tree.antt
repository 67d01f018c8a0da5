-- Trees of slots: a slot is a number, and has a tree on each side.
-- The slots of a tree in order are those of the left side, the slot itself, those of the right side.
use Rattle.std.specs.Prelude.{ℕ, zero, suc, ◌+◌, ◌≤◌, max, List, [], ◌∷◌, ◌++◌, length, Some, None, Option}

pub data Tree : Type 0 where
  leaf : Tree
  node : Tree → ℕ → Tree → Tree

abbrev pub slots : Tree → List ℕ
slots leaf = []
slots (node l i r) = slots l ++ (i ∷ slots r)

-- The slot at the top, if there is one.
abbrev pub root : Tree → Option ℕ
root leaf = None
root (node l i r) = Some i

-- Heights are counted from below: nothing has height 0, and a slot adds one to the higher of what is on its sides.
abbrev pub height : Tree → ℕ
height leaf = 0
height (node l i r) = suc (max (height l) (height r))

-- The heights of two trees differ by at most one.
pub record Level (l r : Tree) : Type 0 where
  pub left_low : height l ≤ suc (height r)
  pub right_low : height r ≤ suc (height l)

-- A tree is balanced where the two sides of each slot are level.
abbrev pub Balanced : Tree → Type 0
Balanced leaf = Unit {0}
Balanced (node l i r) = Level l r × (Balanced l × Balanced r)

-- The least number of slots that a balanced tree of a height has: 0, 1, 2, 4, 7, ..
abbrev pub least : ℕ → ℕ
least zero = 0
least (suc zero) = 1
least (suc (suc h)) = suc (least (suc h) + least h)

-- A balanced tree of up to 4,096 slots is at most 16 high: one of height 17 has 4,180 slots at least.
abbrev pub BalancedTreesAreLow : Type 0
BalancedTreesAreLow = (t : Tree) → Balanced t → length (slots t) ≤ 4096 → height t ≤ 16
