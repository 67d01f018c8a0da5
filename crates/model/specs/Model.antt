-- A document, as far as the rules speak of it.
use Rattle.std.specs.Prelude.{ℕ, List, Option}
use Rattle.chunks.specs.Cut.{joined}
use Rattle.model.specs.declared.change.Change.{Change}

pub record Model : Type 0 where
  -- how many slots, bytes of store and readings are lent
  pub slots : ℕ
  pub store : ℕ
  pub readings : ℕ
  -- how many slots may be used: none before OPEN, all behind it
  pub usable : ℕ
  -- the text, as it is cut into chunks
  pub chunks : List (List ℕ)
  -- the change that waits to be painted
  pub due : Option Change

abbrev pub text_of : Model → List ℕ
text_of m = joined m.chunks
