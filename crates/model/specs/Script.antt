-- SCRIPT: records one after another, each an EDIT and the PAINT of its due. The first record that is refused ends it; what was done
-- before stays done.
use Rattle.std.specs.Prelude.{◌≡◌, ℕ, suc, ◌+◌, ◌-◌, ◌≤◌, ◌&&◌, List, [], ◌∷◌, length, Some, None, Option, nat_le}
use Rattle.std.specs.List.{between}
use Rattle.automaton.specs.Automaton.{Automaton}
use Rattle.model.specs.declared.change.Change.{Change}
use Rattle.model.specs.declared.refusal.Refusal.{Refusal}
use Rattle.model.specs.declared.refusal.Refusal.TheVariants.{ShortScreen, OutsidePart}
use Rattle.model.specs.declared.replacement.Replacement.{Replacement}
use Rattle.model.specs.Calls.{unless, unless_due, change_refusal, edit_refusal, edited, paint_refusal, settled}
use Rattle.model.specs.Edit.{edited_text, edited_chunks}
use Rattle.model.specs.End.{edit_change}
use Rattle.model.specs.Model.{Model, text_of}
use Rattle.model.specs.Paint.{painted}
use Rattle.model.specs.SomeWalk.{ChangeColoured}

-- The new bytes of a record: a part of the text given with the script.
abbrev pub part_of : List ℕ → Replacement → List ℕ
part_of given r = between r.start r.end given

-- A refusal, if there is one; else the next.
abbrev pub else_refused : Option Refusal → Option Refusal → Option Refusal
else_refused None next = next
else_refused (Some refusal) next = Some refusal

-- The first reason to refuse a record, on a screen of so many cells. The screen is looked at before anything is changed.
abbrev pub record_refusal : ℕ → List ℕ → Model → Replacement → Option Refusal
record_refusal cells given m r =
    unless_due m.due
    (unless (nat_le r.start r.end && nat_le r.end (length given)) (OutsidePart r.end)
    (else_refused (change_refusal m r.from r.to (part_of given r))
    (unless (nat_le (length (text_of m)) cells && nat_le (length (edited_text (text_of m) r.from r.to (part_of given r))) cells) (ShortScreen cells) None)))

-- The due of a record's EDIT.
abbrev pub record_change : Automaton → List ℕ → Model → Replacement → Change
record_change a given m r = edit_change a (text_of m) r.from r.to (part_of given r)

-- What a record leaves: the new chunks, and no due.
abbrev pub recorded : List ℕ → Model → Replacement → Model
recorded given m r = record {
  slots = m.slots;
  store = m.store;
  readings = m.readings;
  usable = m.usable;
  chunks = edited_chunks m.chunks r.from r.to (part_of given r);
  due = None;
}

-- On the screen, its change is painted.
abbrev pub record_painted : Automaton → List ℕ → Model → List ℕ → Replacement → List ℕ
record_painted a given m screen r = painted a (text_of (recorded given m r)) (record_change a given m r) screen

-- The same where readings may tell any end: some change with the record's other numbers is painted.
pub record RecordColoured (a : Automaton) (given : List ℕ) (m : Model) (r : Replacement) (before after : List ℕ) : Type 0 where
  pub end : ℕ
  pub behind : r.from + length (part_of given r) ≤ end
  pub within : end ≤ length (text_of (recorded given m r))
  pub painted : ChangeColoured a (text_of (recorded given m r)) (record { place = r.from; removed = r.to - r.from; inserted = length (part_of given r); end = end }) before after

-- How many records were done, the refusal of the one that was not, and what they left.
pub record Scripted : Type 0 where
  pub done : ℕ
  pub refused : Option Refusal
  pub after : Model

abbrev pub one_more : Scripted → Scripted
one_more s = record { done = suc s.done; refused = s.refused; after = s.after }

abbrev pub stopped_or : Option Refusal → Model → Scripted → Scripted
stopped_or None m rest = one_more rest
stopped_or (Some refusal) m rest = record { done = 0; refused = Some refusal; after = m }

abbrev pub scripted : ℕ → List ℕ → Model → List Replacement → Scripted
scripted cells given m [] = record { done = 0; refused = None; after = m }
scripted cells given m (r ∷ rs) = stopped_or (record_refusal cells given m r) m (scripted cells given (recorded given m r) rs)

-- And what they left on the screen.
abbrev pub screen_or : Option Refusal → List ℕ → List ℕ → List ℕ
screen_or None screen rest = rest
screen_or (Some refusal) screen rest = screen

abbrev pub script_screen : Automaton → ℕ → List ℕ → Model → List ℕ → List Replacement → List ℕ
script_screen a cells given m screen [] = screen
script_screen a cells given m screen (r ∷ rs) =
    screen_or (record_refusal cells given m r) screen (script_screen a cells given (recorded given m r) (record_painted a given m screen r) rs)

-- A record that is not refused is an EDIT that is not, and the PAINT of its due, which is not either.
abbrev pub RecordsArePaintedEdits : Type 0
RecordsArePaintedEdits =
    (a : Automaton) (given : List ℕ) (m : Model) (screen : List ℕ) (r : Replacement) → record_refusal (length screen) given m r ≡ None →
    let c = record_change a given m r in
    let behind = edited m r.from r.to (part_of given r) c in
    (edit_refusal m r.from r.to (part_of given r) ≡ None) × ((paint_refusal behind c (length screen) ≡ None)
    × ((recorded given m r ≡ settled behind) × (record_painted a given m screen r ≡ painted a (text_of behind) c screen)))
