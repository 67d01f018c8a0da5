-- Each call: the first reason to refuse it, and what it leaves. A call that is refused leaves everything as it was.
use Rattle.std.specs.Prelude.{ℕ, ◌+◌, ◌-◌, ◌*◌, Bool, true, false, cond, ◌&&◌, List, [], ◌++◌, length, drop, Some, None, Ok, Err, Option, Result, ◌==◌, nat_le, nat_lt}
use Rattle.std.specs.List.{between}
use Rattle.std.specs.Str.{bytes_eq}
use Rattle.automaton.specs.Automaton.{Automaton}
use Rattle.measure.specs.Place.{line_ends}
use Rattle.brackets.specs.Partner.{role_at, is_live}
use Rattle.model.specs.declared.change.Change.{Change}
use Rattle.model.specs.declared.refusal.Refusal.{Refusal}
use Rattle.model.specs.declared.refusal.Refusal.TheVariants.{OpenedBefore, SlotCount, LentLength, UnusableGrammar, DueStands, OutsideText, TooManyBytes, TooManyChunks, UnknownDue, ShortScreen, ShortBuffer, OutsidePlace, NoLine, NoBracket}
use Rattle.model.specs.Model.{Model, text_of}
use Rattle.model.specs.Edit.{edited_chunks}
use Rattle.model.specs.Paint.{length_before}

-- A test that has to be passed; behind it the next ones follow.
abbrev pub unless : Bool → Refusal → Option Refusal → Option Refusal
unless passed refusal next = cond passed next (Some refusal)

-- What a call says that gives x where it is not refused.
abbrev pub answered : {X : Type 0} → Option Refusal → X → Result X Refusal
answered None x = Ok x
answered (Some refusal) x = Err refusal

-- The refusal in an answer, if it is one.
abbrev pub refusal_in : {X : Type 0} → Result X Refusal → Option Refusal
refusal_in (Ok x) = None
refusal_in (Err refusal) = Some refusal

-- OPEN, with a grammar of so many states
abbrev pub open_refusal : Model → ℕ → Option Refusal
open_refusal m states =
    unless (m.usable == 0) OpenedBefore
    (unless (nat_le 1 m.slots && nat_le m.slots 4096) (SlotCount m.slots)
    (unless (m.store == 64 * m.slots) (LentLength m.store)
    (unless (m.readings == m.slots) (LentLength m.readings)
    (unless (nat_lt 0 states) UnusableGrammar None))))

abbrev pub opened : Model → Model
opened m = record { slots = m.slots; store = m.store; readings = m.readings; usable = m.slots; chunks = []; due = m.due }

-- EDIT and CLOSE wait until the due that stands is painted.
abbrev pub unless_due : Option Change → Option Refusal → Option Refusal
unless_due None next = next
unless_due (Some c) next = Some (DueStands c.place)

abbrev pub unless_outside : Model → ℕ → ℕ → Option Refusal → Option Refusal
unless_outside m from to = unless (nat_le from to && nat_le to (length (text_of m))) (OutsideText to)

-- EDIT: what its range, its bytes and its chunks have to be, and the due before all.
abbrev pub change_refusal : Model → ℕ → ℕ → List ℕ → Option Refusal
change_refusal m from to new =
    let chunks = length (edited_chunks m.chunks from to new) in
    unless_outside m from to
    (unless (nat_le (length new) 1024) (TooManyBytes (length new))
    (unless (nat_le chunks m.usable) (TooManyChunks chunks) None))

abbrev pub edit_refusal : Model → ℕ → ℕ → List ℕ → Option Refusal
edit_refusal m from to new = unless_due m.due (change_refusal m from to new)

-- What it leaves, given the four numbers that it answers.
abbrev pub edited : Model → ℕ → ℕ → List ℕ → Change → Model
edited m from to new c = record {
  slots = m.slots;
  store = m.store;
  readings = m.readings;
  usable = m.usable;
  chunks = edited_chunks m.chunks from to new;
  due = Some c;
}

-- PAINT
abbrev pub same_change : Change → Change → Bool
same_change c d = c.place == d.place && (c.removed == d.removed && (c.inserted == d.inserted && c.end == d.end))

abbrev pub stands : Option Change → Change → Bool
stands None c = false
stands (Some d) c = same_change d c

abbrev pub screen_refusal : Model → Change → ℕ → Option Refusal
screen_refusal m c cells =
    let n = length (text_of m) in
    unless (nat_le n cells && nat_le (length_before c n) cells) (ShortScreen cells) None

-- The numbers of a change fit a text of n bytes: its end lies behind the new bytes and within the text.
abbrev pub fits : Change → ℕ → Bool
fits c n = nat_le (c.place + c.inserted) c.end && nat_le c.end n

abbrev pub due_fits : Option Change → ℕ → Bool
due_fits None n = true
due_fits (Some c) n = fits c n

-- Numbers that do not fit the text are no due of it.
abbrev pub fitting_refusal : Model → Change → ℕ → Option Refusal
fitting_refusal m c cells = unless (fits c (length (text_of m))) (UnknownDue c.place) (screen_refusal m c cells)

abbrev pub paint_refusal : Model → Change → ℕ → Option Refusal
paint_refusal m c cells = unless (stands m.due c) (UnknownDue c.place) (screen_refusal m c cells)

abbrev pub settled : Model → Model
settled m = record { slots = m.slots; store = m.store; readings = m.readings; usable = m.usable; chunks = m.chunks; due = None }

-- CLOSE
abbrev pub close_refusal : Model → Option Refusal
close_refusal m = unless_due m.due None

-- TEXT and COLOURS, with a buffer of so many cells
abbrev pub range_refusal : Model → ℕ → ℕ → ℕ → Option Refusal
range_refusal m from to cells =
    unless_outside m from to
    (unless (nat_le (to - from) cells) (ShortBuffer cells) None)

-- A buffer with the range's part of a list at its front; the rest stays.
abbrev pub with_front : List ℕ → List ℕ → List ℕ
with_front part buffer = part ++ drop (length part) buffer

-- RANGE
abbrev pub extent_refusal : Model → ℕ → ℕ → Option Refusal
extent_refusal m from to = unless_outside m from to None

-- PLACE and SAME take each place of the text, and its end.
abbrev pub place_refusal : Model → ℕ → Option Refusal
place_refusal m at = unless (nat_le at (length (text_of m))) (OutsidePlace at) None

-- SAME: the bytes from a place on are the given ones; a text that ends before has fewer.
abbrev pub begins : List ℕ → ℕ → List ℕ → Bool
begins text at given = bytes_eq (between at (at + length given) text) given

-- SPOT
abbrev pub spot_refusal : Model → ℕ → Option Refusal
spot_refusal m line = unless (nat_le line (line_ends (text_of m))) (NoLine line) None

-- PARTNER
abbrev pub partner_refusal : Automaton → Model → ℕ → Option Refusal
partner_refusal a m at =
    unless (nat_lt at (length (text_of m))) (OutsidePlace at)
    (unless (is_live (role_at a (text_of m) at)) (NoBracket at) None)
