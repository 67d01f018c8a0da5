-- One statement for both sides: what stands on a given side of a slot, and what stands on the other.
use Rattle.std.specs.Prelude.{ℕ, List, ◌∷◌, ◌++◌}
use Rattle.chunks.specs.declared.side.Side.{Side}
use Rattle.chunks.specs.declared.side.Side.TheVariants.{Left, Right}
use Rattle.chunks.specs.Tree.{Tree, node}

abbrev pub other : Side → Side
other Left = Right
other Right = Left

-- The tree that has `near` on the given side of slot i, and `far` on the other.
abbrev pub around : Side → Tree → ℕ → Tree → Tree
around Left near i far = node near i far
around Right near i far = node far i near

-- Lists put together in the same way.
abbrev pub run : Side → List ℕ → ℕ → List ℕ → List ℕ
run Left near i far = near ++ (i ∷ far)
run Right near i far = far ++ (i ∷ near)
