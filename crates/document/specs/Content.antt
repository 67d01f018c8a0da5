-- What a document holds, as far as the rules speak of it.
use Rattle.std.specs.Prelude.{◌≡◌, ℕ, List, [], length, None}
use Rattle.measure.specs.Measure.{Measure}
use Rattle.chunks.specs.Tree.{height}
use Rattle.model.specs.Model.{Model}
use Rattle.tree.specs.Public.{tree_in, chunks_now, KeptBy}
use Rattle.editing.specs.Content.{text_in, model_in}
use Rattle.document.specs.declared.document.Document.{Document}

module _ {R : Type 0} (d : Document R) where
  abbrev pub model_of : Model
  model_of = model_in d.tree d.due

  abbrev pub text : List ℕ
  text = text_in d.tree

  -- Each slot keeps the meter's reading of exactly the bytes under it.
  abbrev pub Keeps : Measure R → Type 0
  Keeps μ = KeptBy d.tree μ

  -- Bytes, chunks and height. The height is that of the tree which memory holds.
  abbrev pub size_of : ℕ × ℕ × ℕ
  size_of = (length text, length (chunks_now d.tree), height (tree_in d.tree))

-- Nothing of a document changed: not a byte of the memory that its tree has, nor the due.
abbrev pub Unchanged : {R : Type 0} → Document R → Document R → Type 0
Unchanged before after = (after.tree ≡ before.tree) × (after.due ≡ before.due)

-- A document that was just put together: so much is lent, nothing of it is usable, and there is no text and no due.
abbrev pub new_model : ℕ → ℕ → ℕ → Model
new_model slots store readings = record { slots = slots; store = store; readings = readings; usable = 0; chunks = []; due = None }
