-- The line ends of a text behind an edit, counted from those before it.
use Rattle.std.proofs.Common.{◌≡◌, ℕ, ◌+◌, ◌-◌, ◌≤◌, List, ◌++◌, take, drop, Some, None, sym, ap, ◌∙◌, arith}
use Rattle.std.specs.List.{between}
use Rattle.std.proofs.lemmas.List.{take-append-drop}
use Rattle.measure.specs.Place.{line_ends}
use Rattle.measure.proofs.Place.{line_ends_append, line_ends_few}
use Rattle.model.specs.declared.change.Change.{Change}
use Rattle.model.specs.Calls.{change_refusal, edited}
use Rattle.model.specs.Edit.{edited_text}
use Rattle.model.specs.Model.{Model, text_of}
use Rattle.model.proofs.Editing.{between_drop, edit_leaves_text}
use Rattle.tree.specs.declared.chunk_tree.ChunkTree.{ChunkTree}
use Rattle.editing.specs.Content.{text_in, model_in}
use Rattle.editing.proofs.Planning.{was_allowed}
use Rattle.editing.proofs.Short.{text_short}

pub record Recounted (lines lost gained after : ℕ) : Type 0 where
  pub enough : lost ≤ lines
  pub sum : lines - lost + gained ≡ after

edited_lines : (text : List ℕ) (from to : ℕ) (new : List ℕ) → from ≤ to → Recounted (line_ends text) (line_ends (between from to text)) (line_ends new) (line_ends (edited_text text from to new))
edited_lines text from to new forward =
    let front = line_ends_append (take from text) (drop from text) in
    let whole = ap line_ends (take-append-drop from text) in
    let rest = ap line_ends (between_drop from to text forward) in
    let cut = line_ends_append (between from to text) (drop to text) in
    let made = line_ends_append (take from text) (new ++ drop to text) in
    let back = line_ends_append new (drop to text) in
    record { enough = omega (arith, front, whole, rest, cut); sum = omega (arith, front, whole, rest, cut, made, back) }

-- The same of a tree behind an edit.
pub record Counted {R : Type 0} (lines lost gained : ℕ) (after : ChunkTree R) : Type 0 where
  pub enough : lost ≤ lines
  pub sum : lines - lost + gained ≡ line_ends (text_in after)
  pub few : lines - lost + gained ≤ 262144

pub counted_behind : {R : Type 0} (T after : ChunkTree R) (from to : ℕ) (new : List ℕ) (c : Change) (lines lost : ℕ) → None ≡ change_refusal (model_in T None) from to new → model_in after (Some c) ≡ edited (model_in T None) from to new c →
    lines ≡ line_ends (text_in T) → lost ≡ line_ends (between from to (text_in T)) → Counted lines lost (line_ends new) after
counted_behind T after from to new c lines lost none leaves counted told =
    let ok = was_allowed (model_in T None) from to new (sym none) in
    let text_is : text_in after ≡ edited_text (text_in T) from to new = ap (λ (m : Model). text_of m) leaves ∙ edit_leaves_text (model_in T None).chunks from to new ok.forward ok.inside in
    let r = edited_lines (text_in T) from to new ok.forward in
    let same = ap line_ends text_is in
    let sum : lines - lost + line_ends new ≡ line_ends (text_in after) = omega (arith, counted, told, same, r.enough, r.sum) in
    record {
      enough = omega (arith, counted, told, r.enough);
      sum = sum;
      few = omega (arith, sum, line_ends_few (text_in after), text_short after);
    }
