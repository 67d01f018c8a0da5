-- What the definitions come to, as relations. Each law stands on the contract of a function of src/laws.rt, so that it is proved.
use Rattle.std.specs.Prelude.{◌≡◌, ℕ, ◌<◌, ◌≤◌, true, Decides, List, [], ◌∷◌, ◌++◌, length, take, drop, Some, None}
use Rattle.automaton.specs.Automaton.{Automaton}
use Rattle.automaton.specs.Walk.{colours}
use Rattle.chunks.specs.Cut.{joined}
use Rattle.model.specs.declared.change.Change.{Change}
use Rattle.model.specs.declared.replacement.Replacement.{Replacement}
use Rattle.model.specs.Calls.{open_refusal, edit_refusal, paint_refusal, close_refusal, range_refusal, extent_refusal, place_refusal, spot_refusal, partner_refusal, opened, edited, settled, screen_refusal, fits, with_front, begins}
use Rattle.model.specs.declared.refusal.Refusal.{Refusal}
use Rattle.model.specs.declared.refusal.Refusal.TheVariants.{OpenedBefore, DueStands}
use Rattle.model.specs.Edit.{edited_text, edited_chunks}
use Rattle.model.specs.End.{edit_change, EndsFirst}
use Rattle.model.specs.Model.{Model, text_of}
use Rattle.model.specs.Paint.{painted}
use Rattle.model.specs.Reasons.{Taken, NeedsRange, OpenNeeds, EditNeeds, PaintNeeds, CloseNeeds, ReadNeeds, PlaceNeeds, SpotNeeds, PartnerNeeds, RecordNeeds}
use Rattle.model.specs.Script.{part_of, record_refusal, recorded, record_painted, Scripted, scripted, script_screen}

-- However the text is cut into chunks, an edit leaves it with the new bytes in the place of the range's.
abbrev pub EditLeavesText : Type 0
EditLeavesText = (chunks : List (List ℕ)) (from to : ℕ) (new : List ℕ) → from ≤ to → to ≤ length (joined chunks) → joined (edited_chunks chunks from to new) ≡ edited_text (joined chunks) from to new

-- The end of an edit is the first place behind the new bytes where the old and the new walk share a state, else the end of the text.
abbrev pub EditEndsFirst : Type 0
EditEndsFirst = (a : Automaton) (text : List ℕ) (from to : ℕ) (new : List ℕ) → from ≤ to → to ≤ length text → EndsFirst a text (edited_text text from to new) (edit_change a text from to new)

-- A screen shows a text where it has the colour of each byte, in a walk begun at the first byte.
pub record ShowsText (a : Automaton) (text screen : List ℕ) : Type 0 where
  pub wide : length text ≤ length screen
  pub cells : take (length text) screen ≡ colours a text

-- Painting an edit turns a screen that showed the old text into one that shows the new text.
abbrev pub PaintingShowsText : Type 0
PaintingShowsText =
    (a : Automaton) (text : List ℕ) (from to : ℕ) (new screen : List ℕ) → from ≤ to → to ≤ length text → ShowsText a text screen →
    length (edited_text text from to new) ≤ length screen →
    ShowsText a (edited_text text from to new) (painted a (edited_text text from to new) (edit_change a text from to new) screen)

-- Each call is refused for the first reason that speaks against it, and for no other.
pub record CallsAreRefusedInOrder : Type 0 where
  pub opens : (m : Model) (states : ℕ) → OpenNeeds m states (open_refusal m states)
  pub edits : (m : Model) (from to : ℕ) (new : List ℕ) → EditNeeds m from to new (edit_refusal m from to new)
  pub paints : (m : Model) (c : Change) (cells : ℕ) → PaintNeeds m c cells (paint_refusal m c cells)
  pub closes : (m : Model) → CloseNeeds m (close_refusal m)
  pub reads : (m : Model) (from to cells : ℕ) → ReadNeeds m from to cells (range_refusal m from to cells)
  pub extents : (m : Model) (from to : ℕ) → NeedsRange m from to Taken (extent_refusal m from to)
  pub places : (m : Model) (at : ℕ) → PlaceNeeds m at (place_refusal m at)
  pub spots : (m : Model) (line : ℕ) → SpotNeeds m line (spot_refusal m line)
  pub partners : (m : Model) (a : Automaton) (at : ℕ) → PartnerNeeds m a at (partner_refusal a m at)
  pub records : (m : Model) (cells : ℕ) (given : List ℕ) (r : Replacement) → RecordNeeds m cells given r (record_refusal cells given m r)

-- As much memory is lent as before.
pub record SameLent (m after : Model) : Type 0 where
  pub slots : after.slots ≡ m.slots
  pub store : after.store ≡ m.store
  pub readings : after.readings ≡ m.readings

-- What a call leaves for the next: OPEN an empty text that is not opened again; EDIT the new text and a due that stands until it is
-- painted, whose own numbers find it; PAINT the text, and no due.
pub record CallsTakeTurns : Type 0 where
  pub opened_once : (m : Model) (states later : ℕ) → open_refusal m states ≡ None → open_refusal (opened m) later ≡ Some OpenedBefore
  pub opened_empty : (m : Model) → text_of (opened m) ≡ []
  pub edit_waits : (m : Model) (c : Change) (from to f t : ℕ) (new bytes : List ℕ) → edit_refusal (edited m from to new c) f t bytes ≡ Some (DueStands c.place)
  pub edit_changes : (m : Model) (c : Change) (from to : ℕ) (new : List ℕ) → from ≤ to → to ≤ length (text_of m) → text_of (edited m from to new c) ≡ edited_text (text_of m) from to new
  pub due_is_found : (m : Model) (c : Change) (from to cells : ℕ) (new : List ℕ) → let behind = edited m from to new c in paint_refusal behind c cells ≡ screen_refusal behind c cells
  pub paint_settles : (m : Model) → close_refusal (settled m) ≡ None
  pub paint_keeps : (m : Model) → text_of (settled m) ≡ text_of m
  pub open_is_lent : (m : Model) → SameLent m (opened m)
  pub edit_is_lent : (m : Model) (c : Change) (from to : ℕ) (new : List ℕ) → let behind = edited m from to new c in SameLent m behind × (behind.usable ≡ m.usable)
  pub paint_is_lent : (m : Model) → SameLent m (settled m) × ((settled m).usable ≡ m.usable)

-- The change of every edit fits the text that the edit leaves.
abbrev pub ChangesFit : Type 0
ChangesFit = (a : Automaton) (text : List ℕ) (from to : ℕ) (new : List ℕ) → from ≤ to → to ≤ length text → fits (edit_change a text from to new) (length (edited_text text from to new)) ≡ true

-- SAME compares: from the place on the text begins with the given bytes.
abbrev pub SameCompares : Type 0
SameCompares = (text : List ℕ) (at : ℕ) (given : List ℕ) → Decides (begins text at given) ((rest : List ℕ) × (drop at text ≡ given ++ rest))

-- TEXT and COLOURS write the front of a buffer that is long enough, and nothing else.
pub record FrontIsWritten (part buffer : List ℕ) : Type 0 where
  pub front : take (length part) (with_front part buffer) ≡ part
  pub rest : drop (length part) (with_front part buffer) ≡ drop (length part) buffer

-- What records leave that are done one after another, of the document and on the screen.
abbrev pub behind : List ℕ → Model → List Replacement → Model
behind given m [] = m
behind given m (r ∷ rs) = behind given (recorded given m r) rs

abbrev pub shown_behind : Automaton → List ℕ → Model → List ℕ → List Replacement → List ℕ
shown_behind a given m screen [] = screen
shown_behind a given m screen (r ∷ rs) = shown_behind a given (recorded given m r) (record_painted a given m screen r) rs

-- A script does all the records before the first that is refused, and no other.
pub record StopsAtRefused (cells : ℕ) (given : List ℕ) (m : Model) (rs : List Replacement) (s : Scripted) : Type 0 where
  pub after : s.after ≡ behind given m (take s.done rs)
  pub taken : (k : ℕ) (r : Replacement) (rest : List Replacement) → k < s.done → drop k rs ≡ r ∷ rest → record_refusal cells given (behind given m (take k rs)) r ≡ None
  pub all_done : s.refused ≡ None → s.done ≡ length rs
  pub stopped : (refusal : Refusal) → s.refused ≡ Some refusal → (r : Replacement) × ((rest : List Replacement) × (drop s.done rs ≡ r ∷ rest)) × (record_refusal cells given s.after r ≡ Some refusal)

-- The part of a record lies in the text given from its start up to its end.
abbrev pub PartLies : List ℕ → Replacement → Type 0
PartLies given r = given ≡ take r.start given ++ (part_of given r ++ drop r.end given)

pub record ScriptsStopAtRefused : Type 0 where
  pub parts : (given : List ℕ) (r : Replacement) → r.start ≤ r.end → PartLies given r
  pub stops : (cells : ℕ) (given : List ℕ) (m : Model) (rs : List Replacement) → StopsAtRefused cells given m rs (scripted cells given m rs)
  pub paints : (a : Automaton) (cells : ℕ) (given : List ℕ) (m : Model) (screen : List ℕ) (rs : List Replacement) →
      script_screen a cells given m screen rs ≡ shown_behind a given m screen (take (scripted cells given m rs).done rs)
