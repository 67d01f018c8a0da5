-- A link leads to a tree that memory holds: the one that is read off memory.
use Rattle.std.specs.Prelude.{ℕ, Option}
use Rattle.slots.specs.declared.memory.Memory.{Memory}
use Rattle.slots.specs.Split.{Held}
use Rattle.slots.specs.Sound.{tree_of}

abbrev pub Leads : {R : Type 0} → Memory R → Option ℕ → Type 0
Leads m link = ∥ Held m link (tree_of m link) ∥₁
