-- The due of an edit is painted on every screen that has room for the text before and behind the edit.
use Rattle.std.proofs.Common.{◌≡◌, ℕ, ◌+◌, ◌-◌, ◌≤◌, true, ◌&&◌, leb, List, ◌++◌, length, take, drop, Some, None, refl, ap, ◌∙◌, eq-eqb, arith, length-append}
use Rattle.std.proofs.lemmas.Bool.{cond-true, le-leb}
use Rattle.std.proofs.lemmas.List.{length-drop, length-take-le}
use Rattle.model.specs.declared.change.Change.{Change}
use Rattle.model.specs.declared.refusal.Refusal.TheVariants.{UnknownDue, ShortScreen}
use Rattle.model.specs.Calls.{unless_due, change_refusal, edit_refusal, edited, same_change, paint_refusal, screen_refusal}
use Rattle.model.specs.Edit.{edited_text}
use Rattle.model.specs.Model.{Model, text_of}
use Rattle.model.specs.Paint.{length_before}
use Rattle.model.proofs.Editing.{edit_leaves_text}
use Rattle.editing.proofs.Planning.{was_allowed}
use Rattle.model.specs.declared.replacement.Replacement.{Replacement}
use Rattle.model.specs.Script.{part_of, record_refusal, record_change, RecordsArePaintedEdits}
use Rattle.document.proofs.Records.{no_due, record_accepted}

same_self : (c : Change) → same_change c c ≡ true
same_self c = rw (eq-eqb c.place c.place refl, eq-eqb c.removed c.removed refl, eq-eqb c.inserted c.inserted refl, eq-eqb c.end c.end refl)

edited_length : (text : List ℕ) (from to : ℕ) (new : List ℕ) → from ≤ to → to ≤ length text → length (edited_text text from to new) + (to - from) ≡ length text + length new
edited_length text from to new forward inside =
    let front = length-take-le from text (omega arith) in
    let all = length-append (take from text) (new ++ drop to text) in
    let rest = length-append new (drop to text) in
    let back = length-drop to text in
    omega (arith, front, all, rest, back)

pub due_painted : (m : Model) (from to : ℕ) (new : List ℕ) (c : Change) (cells : ℕ) → edit_refusal m from to new ≡ None → c.removed ≡ to - from → c.inserted ≡ length new →
    length (text_of m) ≤ cells → length (text_of (edited m from to new c)) ≤ cells → paint_refusal (edited m from to new c) c cells ≡ None
due_painted m from to new c cells e removed inserted before behind =
    let ok = was_allowed m from to new (no_due m.due (change_refusal m from to new) e).1 in
    let n = length (text_of (edited m from to new c)) in
    let now = ap length (edit_leaves_text m.chunks from to new ok.forward ok.inside) in
    let grown = edited_length (text_of m) from to new ok.forward ok.inside in
    let fits : length_before c n ≤ cells = omega (arith, ok.forward, ok.inside) in
    let wide : (leb n cells && leb (length_before c n) cells) ≡ true = rw (le-leb n cells behind, le-leb (length_before c n) cells fits) in
    cond-true (same_change c c) (screen_refusal (edited m from to new c) c cells) (Some (UnknownDue c.place)) (same_self c)
    ∙ cond-true (leb n cells && leb (length_before c n) cells) None (Some (ShortScreen cells)) wide

-- A record that is not refused: its edit is not, and the due of that edit is painted.
pub record_edited : (cells : ℕ) (given : List ℕ) (m : Model) (r : Replacement) → record_refusal cells given m r ≡ None → edit_refusal m r.from r.to (part_of given r) ≡ None
record_edited cells given m r e =
    let ok = record_accepted cells given m r e in
    ap (λ d. unless_due d (change_refusal m r.from r.to (part_of given r))) ok.no_due ∙ ok.not_refused

pub record_done : (cells : ℕ) (given : List ℕ) (m : Model) (r : Replacement) (c : Change) → record_refusal cells given m r ≡ None → c.removed ≡ r.to - r.from → c.inserted ≡ length (part_of given r) →
    paint_refusal (edited m r.from r.to (part_of given r) c) c cells ≡ None
record_done cells given m r c e removed inserted =
    let new = part_of given r in
    let ok = record_accepted cells given m r e in
    let is = ap length (edit_leaves_text m.chunks r.from r.to new ok.allowed.forward ok.allowed.inside) in
    due_painted m r.from r.to new c cells (record_edited cells given m r e) removed inserted ok.wide_before (omega (arith, ok.wide_behind))

pub records_are_painted_edits : RecordsArePaintedEdits
records_are_painted_edits a given m screen r e = (record_edited (length screen) given m r e, (record_done (length screen) given m r (record_change a given m r) e refl refl, (refl, refl)))
