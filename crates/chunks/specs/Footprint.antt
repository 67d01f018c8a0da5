-- Which slots a tree takes up, by counting: two trees are apart where no slot counts for both.
use Rattle.std.specs.Prelude.{ℕ, ◌+◌, cond, List, [], ◌∷◌, ◌==◌, nat_lt}
use Rattle.chunks.specs.Tree.{Tree, slots}

-- 1 for the slot itself, 0 for every other.
abbrev pub one : ℕ → ℕ → ℕ
one i j = cond (i == j) 1 0

-- How often j stands in a list.
abbrev pub count : List ℕ → ℕ → ℕ
count [] j = 0
count (i ∷ is) j = one i j + count is j

-- How often slot j stands in a tree.
abbrev pub uses : Tree → ℕ → ℕ
uses t j = count (slots t) j

-- 1 for each number below n.
abbrev pub below : ℕ → ℕ → ℕ
below n j = cond (nat_lt j n) 1 0
