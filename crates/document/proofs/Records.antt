-- A record that is not refused: what is known of it.
use Rattle.std.proofs.Common.{◌≡◌, ℕ, ◌≤◌, ◌&&◌, leb, List, length, Some, None, Option, refl}
use Rattle.std.proofs.lemmas.Bool.{and_parts, leb-true}
use Rattle.model.specs.declared.change.Change.{Change}
use Rattle.model.specs.declared.refusal.Refusal.{Refusal}
use Rattle.model.specs.declared.refusal.Refusal.TheVariants.{ShortScreen, OutsidePart}
use Rattle.model.specs.declared.replacement.Replacement.{Replacement}
use Rattle.model.specs.Calls.{unless, unless_due, change_refusal}
use Rattle.model.specs.Edit.{edited_text}
use Rattle.model.specs.Model.{Model, text_of}
use Rattle.model.specs.Script.{part_of, else_refused, record_refusal}
use Rattle.editing.proofs.Planning.{Allowed, passed, was_allowed}

-- An edit is not refused only where no due stands.
pub no_due : (due : Option Change) (next : Option Refusal) → unless_due due next ≡ None → (due ≡ None) × (next ≡ None)
no_due None next e = (refl, e)
no_due (Some c) next e = cc

-- The next is asked only where the first is no refusal.
pub next_asked : (o next : Option Refusal) → else_refused o next ≡ None → (o ≡ None) × (next ≡ None)
next_asked None next e = (refl, e)
next_asked (Some f) next e = cc

-- What was looked at before a record was carried out.
pub record Accepted (cells : ℕ) (given : List ℕ) (m : Model) (r : Replacement) : Type 0 where
  pub no_due : m.due ≡ None
  pub part_forward : r.start ≤ r.end
  pub part_inside : r.end ≤ length given
  pub not_refused : change_refusal m r.from r.to (part_of given r) ≡ None
  pub allowed : Allowed m r.from r.to (part_of given r)
  pub wide_before : length (text_of m) ≤ cells
  pub wide_behind : length (edited_text (text_of m) r.from r.to (part_of given r)) ≤ cells

pub record_accepted : (cells : ℕ) (given : List ℕ) (m : Model) (r : Replacement) → record_refusal cells given m r ≡ None → Accepted cells given m r
record_accepted cells given m r e =
    let new = part_of given r in
    let n = length (text_of m) in
    let k = length (edited_text (text_of m) r.from r.to new) in
    let screen = unless (leb n cells && leb k cells) (ShortScreen cells) None in
    let change = else_refused (change_refusal m r.from r.to new) screen in
    let due = no_due m.due (unless (leb r.start r.end && leb r.end (length given)) (OutsidePart r.end) change) e in
    let part = passed (leb r.start r.end && leb r.end (length given)) (OutsidePart r.end) change due.1 in
    let inside = and_parts (leb r.start r.end) (leb r.end (length given)) part.0 in
    let asked = next_asked (change_refusal m r.from r.to new) screen part.1 in
    let wide = and_parts (leb n cells) (leb k cells) (passed (leb n cells && leb k cells) (ShortScreen cells) None asked.1).0 in
    record {
      no_due = due.0;
      part_forward = leb-true r.start r.end inside.0;
      part_inside = leb-true r.end (length given) inside.1;
      not_refused = asked.0;
      allowed = was_allowed m r.from r.to new asked.0;
      wide_before = leb-true n cells wide.0;
      wide_behind = leb-true k cells wide.1;
    }
