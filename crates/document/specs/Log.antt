-- A log of calls: what each call answers and leaves, and what is promised of every log of a document since it was new.
use Rattle.std.specs.Prelude.{◌≡◌, ℕ, ◌≤◌, min, List, [], ◌∷◌, map, reverse, length, Some, None, Ok, Err, Option, Result}
use Rattle.std.specs.List.{between}
use Rattle.automaton.specs.Automaton.{Automaton}
use Rattle.automaton.specs.Walk.{colours}
use Rattle.chunks.specs.Tree.{Balanced, height}
use Rattle.measure.specs.Measure.{Measure, reading}
use Rattle.model.specs.declared.change.Change.{Change}
use Rattle.model.specs.declared.refusal.Refusal.{Refusal}
use Rattle.model.specs.declared.refusal.Refusal.TheVariants.{NoBracket}
use Rattle.model.specs.declared.replacement.Replacement.{Replacement}
use Rattle.model.specs.Calls.{open_refusal, opened, edit_refusal, edited, paint_refusal, settled, close_refusal, range_refusal, with_front, extent_refusal, place_refusal, spot_refusal, partner_refusal, begins}
use Rattle.model.specs.End.{edit_change, EndsFirst}
use Rattle.model.specs.Laws.{ShowsText}
use Rattle.model.specs.Model.{Model}
use Rattle.model.specs.Paint.{painted}
use Rattle.model.specs.SomeWalk.{FrontColoured, ChangeColoured}
use Rattle.model.specs.Script.{Scripted, scripted, script_screen}
use Rattle.brackets.specs.Partner.{partner}
use Rattle.positions.specs.Position.{line_of, column_of, spot}
use Rattle.tree.specs.Public.{tree_in}
use Rattle.document.specs.declared.desk.Desk.{Desk}
use Rattle.document.specs.declared.document.script.RecordRefusal.{RecordRefusal}
use Rattle.document.specs.declared.call.Call.{Call}
use Rattle.document.specs.declared.call.Call.TheVariants as call
use Rattle.document.specs.declared.call.Answer.{Answer}
use Rattle.document.specs.declared.call.Answer.TheVariants as answer
use Rattle.document.specs.Content.{model_of, text, Keeps, size_of, Unchanged}
use Rattle.document.specs.Snapshot.{Snapshot, SameSnapshot}
use Rattle.document.specs.Records.{script_result, CarriedInText, CarriedTo, RecordByRecord}

-- A call with all it was given, its answer, and what it left.
pub record Entry (R : Type 0) : Type 0 where
  pub call : Call
  pub answer : Answer
  pub after : Snapshot R

-- What a SCRIPT answers: how many records it did, or which one was refused, and why.
abbrev pub script_answer : Result ℕ RecordRefusal → Answer
script_answer (Ok done) = answer.Done done
script_answer (Err refusal) = answer.RecordRefused refusal

-- What the records of a script do, one after another.
abbrev pub script_of : {R : Type 0} → Snapshot R → List Replacement → List ℕ → Scripted
script_of s records given = scripted (length s.screen) given (model_of s.document) records

module _ {R : Type 0} (a : Automaton) (s : Snapshot R) where
  -- The first reason to refuse a call, if there is one. A script is never refused as a whole: its answer tells of its records.
  abbrev pub refusal_of : Call → Option Refusal
  refusal_of call.Size = None
  refusal_of (call.Open states) = open_refusal (model_of s.document) states
  refusal_of (call.Edit from to bytes) = edit_refusal (model_of s.document) from to bytes.now
  refusal_of (call.Paint change) = paint_refusal (model_of s.document) change (length s.screen)
  refusal_of (call.Script records given) = None
  refusal_of call.Close = close_refusal (model_of s.document)
  refusal_of (call.Text from to room) = range_refusal (model_of s.document) from to (min room (length s.buffer))
  refusal_of (call.Colours from to room) = range_refusal (model_of s.document) from to (min room (length s.buffer))
  refusal_of (call.Range from to) = extent_refusal (model_of s.document) from to
  refusal_of (call.Same place bytes) = place_refusal (model_of s.document) place
  refusal_of (call.Place place) = place_refusal (model_of s.document) place
  refusal_of (call.Spot line column) = spot_refusal (model_of s.document) line
  refusal_of (call.Partner place) = partner_refusal a (model_of s.document) place

  -- What a call answers and leaves where it is not refused.
  abbrev pub answer_done : Call → Answer
  answer_done call.Size = let size = size_of s.document in answer.Size size.0 size.1 size.2
  answer_done (call.Open states) = answer.Pass
  answer_done (call.Edit from to bytes) = answer.Due (edit_change a (text s.document) from to bytes.now)
  answer_done (call.Paint change) = answer.Pass
  answer_done (call.Script records given) = script_answer (script_result (script_of s records.now given.now))
  answer_done call.Close = answer.Closed
  answer_done (call.Text from to room) = answer.Written
  answer_done (call.Colours from to room) = answer.Written
  answer_done (call.Range from to) = answer.Written
  answer_done (call.Same place bytes) = answer.Begins (begins (text s.document) place bytes.now)
  answer_done (call.Place place) = answer.Position (line_of (text s.document) place) (column_of (text s.document) place)
  answer_done (call.Spot line column) = answer.Spot (spot (text s.document) line column)
  answer_done (call.Partner place) = answer.Partner (partner a (text s.document) place)

  -- The calls that are not named leave it as it was.
  abbrev pub model_done : Call → Model
  model_done (call.Open states) = opened (model_of s.document)
  model_done (call.Edit from to bytes) = edited (model_of s.document) from to bytes.now (edit_change a (text s.document) from to bytes.now)
  model_done (call.Paint change) = settled (model_of s.document)
  model_done (call.Script records given) = (script_of s records.now given.now).after
  model_done k = model_of s.document

  abbrev pub screen_done : Call → List ℕ
  screen_done (call.Paint change) = painted a (text s.document) change s.screen
  screen_done (call.Script records given) = script_screen a (length s.screen) given.now (model_of s.document) s.screen records.now
  screen_done k = s.screen

  abbrev pub buffer_done : Call → List ℕ
  buffer_done (call.Text from to room) = with_front (between from to (text s.document)) s.buffer
  buffer_done (call.Colours from to room) = with_front (between from to (colours a (text s.document))) s.buffer
  buffer_done k = s.buffer

-- The lent reading behind a call: RANGE reads by the document's meter.
abbrev pub reading_done : {R : Type 0} → Measure R → Snapshot R → Call → R
reading_done μ s (call.Range from to) = reading μ (between from to (text s.document))
reading_done μ s k = s.reading

-- A refusal stands in the place of an answer, and leaves what was there before.
abbrev pub replied : Option Refusal → Answer → Answer
replied None done = done
replied (Some refusal) done = answer.Refused refusal

abbrev pub left_by : {Y : Type 0} → Option Refusal → Y → Y → Y
left_by None before done = done
left_by (Some refusal) before done = before

-- A call did as the rules say.
pub record Obeys {R : Type 0} (a : Automaton) (μ : Measure R) (before : Snapshot R) (e : Entry R) : Type 0 where
  pub answer_is : e.answer ≡ replied (refusal_of a before e.call) (answer_done a before e.call)
  pub model_is : model_of e.after.document ≡ left_by (refusal_of a before e.call) (model_of before.document) (model_done a before e.call)
  pub screen_is : e.after.screen ≡ left_by (refusal_of a before e.call) before.screen (screen_done a before e.call)
  pub buffer_is : e.after.buffer ≡ left_by (refusal_of a before e.call) before.buffer (buffer_done a before e.call)
  pub reading_is : e.after.reading ≡ left_by (refusal_of a before e.call) before.reading (reading_done μ before e.call)
  -- where it was refused, not a byte of the lent memory changed
  pub refused_same : (refusal : Refusal) → refusal_of a before e.call ≡ Some refusal → Unchanged before.document e.after.document

-- A script was carried out record by record, and so much is true behind each record.
abbrev pub ByRecords : {R : Type 0} → Automaton → (Snapshot R → Type 0) → Snapshot R → Call → Snapshot R → Type 0
ByRecords a True before (call.Script records given) after = RecordByRecord (CarriedTo a given.now True) given.now records.now before after
ByRecords a True before k after = Unit {0}

-- An answer without what readings tell: where a due ends, what PLACE, SPOT and PARTNER find, and that no live bracket is there.
abbrev pub but_readings : Answer → Answer
but_readings (answer.Due c) = answer.Due (record { place = c.place; removed = c.removed; inserted = c.inserted; end = 0 })
but_readings (answer.Position line column) = answer.Position 0 0
but_readings (answer.Spot at) = answer.Spot 0
but_readings (answer.Partner found) = answer.Partner None
but_readings (answer.Refused (NoBracket at)) = answer.Partner None
but_readings k = k

-- What SPOT finds lies in the text, and a live bracket that PARTNER misses is missed at the place asked for.
abbrev pub FoundInText : List ℕ → Call → Answer → Type 0
FoundInText t (call.Spot line column) (answer.Spot at) = at ≤ length t
FoundInText t (call.Partner place) (answer.Refused (NoBracket at)) = at ≡ place
FoundInText t k told = Unit {0}

-- What is left where a call is not refused, whatever the readings are.
module _ {R : Type 0} (a : Automaton) (s : Snapshot R) where
  -- EDIT leaves the due that it answers.
  abbrev pub model_told : Call → Answer → Model
  model_told (call.Edit from to bytes) (answer.Due c) = edited (model_of s.document) from to bytes.now c
  model_told k told = model_done a s k

  -- Cells that are coloured have the colours of some walk over their bytes.
  abbrev pub ScreenInText : Call → Snapshot R → Type 0
  ScreenInText (call.Paint change) after = ChangeColoured a (text s.document) change s.screen after.screen
  ScreenInText (call.Script records given) after = RecordByRecord (CarriedInText a given.now) given.now records.now s after
  ScreenInText k after = after.screen ≡ s.screen

  abbrev pub BufferInText : Call → Snapshot R → Type 0
  BufferInText (call.Colours from to room) after = FrontColoured a (text s.document) from to s.buffer after.buffer
  BufferInText k after = after.buffer ≡ buffer_done a s k

  abbrev pub ReadingInText : Call → Snapshot R → Type 0
  ReadingInText (call.Range from to) after = Unit {0}
  ReadingInText k after = after.reading ≡ s.reading

-- What is true of a call whatever grammar and meter it is given, and whichever were given before: it answers and leaves what the
-- rules say, but for what readings tell, and where it is refused it leaves everything.
pub record ObeysInText {R : Type 0} (a : Automaton) (before : Snapshot R) (e : Entry R) : Type 0 where
  pub answer_is : but_readings e.answer ≡ but_readings (replied (refusal_of a before e.call) (answer_done a before e.call))
  pub found_so : FoundInText (text before.document) e.call e.answer
  pub model_is : model_of e.after.document ≡ left_by (refusal_of a before e.call) (model_of before.document) (model_told a before e.call e.answer)
  pub screen_is : refusal_of a before e.call ≡ None → ScreenInText a before e.call e.after
  pub buffer_is : refusal_of a before e.call ≡ None → BufferInText a before e.call e.after
  pub reading_is : refusal_of a before e.call ≡ None → ReadingInText a before e.call e.after
  pub refused_leaves : (refusal : Refusal) → refusal_of a before e.call ≡ Some refusal → SameSnapshot before e.after

-- A due that was answered names as its end the first place behind the new bytes where the old and the new walk share a state,
-- else the end of the new text.
abbrev pub NamesItsEnd : {R : Type 0} → Automaton → Snapshot R → Entry R → Type 0
NamesItsEnd a before e = (c : Change) → e.answer ≡ answer.Due c → EndsFirst a (text before.document) (text e.after.document) c

-- What is true of a document and its screen behind every call.
pub record Stands {R : Type 0} (a : Automaton) (μ : Measure R) (s : Snapshot R) : Type 0 where
  pub screen_shows_text : (model_of s.document).due ≡ None → ShowsText a (text s.document) s.screen
  pub slots_keep_readings : Keeps s.document μ
  pub tree_is_balanced : Balanced (tree_in s.document.tree)
  pub tree_is_low : height (tree_in s.document.tree) ≤ 16

-- A new document: no slot is usable, and no due stands.
pub record New {R : Type 0} (s : Snapshot R) : Type 0 where
  pub not_opened : (model_of s.document).usable ≡ 0
  pub no_due : (model_of s.document).due ≡ None

-- What a log comes to. The newest entry is its first.
abbrev pub latest : {R : Type 0} → Snapshot R → List (Entry R) → Snapshot R
latest first [] = first
latest first (e ∷ log) = e.after

-- The log of a document since it was new: every call did as the rules say, every due names its end, and behind each call, and
-- behind each record of a script, the document and its screen stand as promised.
abbrev pub Follows : {R : Type 0} → Automaton → Measure R → Snapshot R → List (Entry R) → Type 0
Follows a μ first [] = New first × Stands a μ first
Follows a μ first (e ∷ log) =
    Follows a μ first log × (Obeys a μ (latest first log) e × (NamesItsEnd a (latest first log) e
    × (Stands a μ e.after × ByRecords a (Stands a μ) (latest first log) e.call e.after)))

-- The memory lent to the calls, on a desk and in a snapshot.
abbrev pub lent_by : {R : Type 0} → Desk R → List ℕ × List ℕ × R
lent_by desk = (desk.screen.now, desk.buffer.now, desk.reading.now)

abbrev pub lent_of : {R : Type 0} → Snapshot R → List ℕ × List ℕ × R
lent_of s = (s.screen, s.buffer, s.reading)

-- A log of a new document, made of so much lent memory, with the given calls, in order, and their answers, from one screen, buffer and reading to others.
pub record Replayed {R : Type 0} (a : Automaton) (μ : Measure R) (made : Model) (calls : List Call) (answers : List Answer) (before after : List ℕ × List ℕ × R) : Type 0 where
  pub first : Snapshot R
  pub made_of : model_of first.document ≡ made
  pub log : List (Entry R)
  pub follows : Follows a μ first log
  pub calls_are : map (λ e. e.call) (reverse log) ≡ calls
  pub answers_are : map (λ e. e.answer) (reverse log) ≡ answers
  pub begins_with : lent_of first ≡ before
  pub leaves : lent_of (latest first log) ≡ after
