-- An edit carried out on a tree, and the numbers that it answers.
use Rattle.std.specs.Prelude.{◌≡◌, ℕ, ◌-◌, true, List, length, Some, None}
use Rattle.model.specs.declared.change.Change.{Change}
use Rattle.model.specs.Calls.{edited, fits}
use Rattle.tree.specs.declared.chunk_tree.ChunkTree.{ChunkTree}
use Rattle.editing.specs.Content.{text_in, model_in}

pub record Applied {R : Type 0} (T : ChunkTree R) (from to : ℕ) (new : List ℕ) (after : ChunkTree R) (c : Change) : Type 0 where
  pub place_is : c.place ≡ from
  pub removed_is : c.removed ≡ to - from
  pub inserted_is : c.inserted ≡ length new
  pub fitting : fits c (length (text_in after)) ≡ true
  pub leaves : model_in after (Some c) ≡ edited (model_in T None) from to new c
