-- What a request makes of a document and of what is lent with it, and what is written as the answer.
use Rattle.std.specs.Prelude.{◌≡◌, ℕ, ◌-◌, ◌%◌, min, List, map, length, take, Some, None, Option, unwrap_or}
use Rattle.automaton.specs.Automaton.{Automaton}
use Rattle.measure.specs.Blank.{blank_measure}
use Rattle.measure.specs.Measure.{Measure}
use Rattle.measure.specs.declared.pair_reading.PairReading.{PairReading}
use Rattle.measure.specs.declared.place_reading.Extent.{Extent}
use Rattle.measure.specs.declared.walk_reading.Passage.{Passage}
use Rattle.meter.specs.declared.blank_meter.Blank.{Blank}
use Rattle.meter.specs.declared.pair_meter.Pair.{Pair}
use Rattle.meter.specs.declared.place_meter.Place.{Place as PlaceMeter}
use Rattle.walks.specs.declared.walk_meter.Walk.{Walk}
use Rattle.editing.specs.Content.{scale_of}
use Rattle.model.specs.declared.change.Change.{Change}
use Rattle.model.specs.declared.replacement.Replacement.{Replacement}
use Rattle.document.specs.declared.call.Call.{Call}
use Rattle.document.specs.declared.call.Call.TheVariants as call
use Rattle.document.specs.declared.call.Answer.{Answer}
use Rattle.document.specs.declared.call.Answer.TheVariants as answer
use Rattle.document.specs.Content.{model_of, text}
use Rattle.document.specs.Log.{Entry, Obeys}
use Rattle.document.specs.Snapshot.{Snapshot}
use Rattle.report.specs.Summary.{summarized, summary_line}
use Rattle.session.specs.Answered.{answer_line}
use Rattle.session.specs.Asked.{Asked, PassedOver, Open, Edit, Paint, Close, Text, Colours, Size, Screen, Script, Range, Same, Place, Spot, Partner}
use Rattle.notation.specs.Digits.{lower_digit}
use Rattle.notation.specs.Quoted.{quoted}

-- The due that never stands: what is painted where none stands and none is given.
abbrev pub no_change : Change
no_change = record { place = 0; removed = 0; inserted = 0; end = 0 }

abbrev pub IsEdit : ℕ → ℕ → List ℕ → Call → Type 0
IsEdit from to bytes (call.Edit f t new) = (f ≡ from) × ((t ≡ to) × (new.now ≡ bytes))
IsEdit from to bytes k = ⊥

abbrev pub IsScript : List ℕ → List Replacement → Call → Type 0
IsScript text records (call.Script rs given) = (rs.now ≡ records) × (given.now ≡ text)
IsScript text records k = ⊥

abbrev pub IsSame : ℕ → List ℕ → Call → Type 0
IsSame place bytes (call.Same p given) = (p ≡ place) × (given.now ≡ bytes)
IsSame place bytes k = ⊥

-- The call that a request is, under a grammar of so many states, with the due that stands and a buffer of so many cells.
abbrev pub IsCall : ℕ → Option Change → ℕ → Asked → Call → Type 0
IsCall states standing cells PassedOver k = ⊥
IsCall states standing cells Open k = k ≡ call.Open states
IsCall states standing cells (Edit from to bytes) k = IsEdit from to bytes k
IsCall states standing cells (Paint due) k = k ≡ call.Paint (unwrap_or due (unwrap_or standing no_change))
IsCall states standing cells Close k = k ≡ call.Close
IsCall states standing cells (Text from to room) k = k ≡ call.Text from to (unwrap_or room cells)
IsCall states standing cells (Colours from to room) k = k ≡ call.Colours from to (unwrap_or room cells)
IsCall states standing cells Size k = k ≡ call.Size
IsCall states standing cells (Screen shown) k = ⊥
IsCall states standing cells (Script text records) k = IsScript text records k
IsCall states standing cells (Range from to) k = k ≡ call.Range from to
IsCall states standing cells (Same place bytes) k = IsSame place bytes k
IsCall states standing cells (Place place) k = k ≡ call.Place place
IsCall states standing cells (Spot line column) k = k ≡ call.Spot line column
IsCall states standing cells (Partner place) k = k ≡ call.Partner place

-- The other requests: a line that is passed over, and a look at the screen.
abbrev pub IsNoCall : Asked → Type 0
IsNoCall PassedOver = Unit {0}
IsNoCall (Screen shown) = Unit {0}
IsNoCall r = ⊥

abbrev pub digits : List ℕ → List ℕ
digits cells = map (λ cell. lower_digit (cell % 16)) cells

-- A reading of the document's meter with a host's readings.
abbrev pub Readings : Type 0 → Type 0
Readings X = PairReading (Option Passage) (PairReading (Option Extent) X)

-- What a host's meter measures, by what its grammar means.
abbrev pub host_scale : {G : Type 0} → (G → Automaton) → Pair (Walk G) (Pair PlaceMeter Blank) → Measure (Readings (Unit {0}))
host_scale meaning meter = scale_of meaning (λ _. blank_measure) meter

-- What is written of an answer: of TEXT and COLOURS, what is at the front of the buffer; of RANGE, what the lent reading tells.
abbrev pub written_of : {X : Type 0} → Call → Answer → List ℕ → Readings X → List ℕ
written_of (call.Text from to room) answer.Written buffer reading = quoted (take (to - from) buffer)
written_of (call.Colours from to room) answer.Written buffer reading = digits (take (to - from) buffer)
written_of (call.Range from to) answer.Written buffer reading = summary_line (summarized reading.first reading.second.first)
written_of k a buffer reading = answer_line a

-- How many cells of the screen are shown: as many as are asked for, or as the text has bytes; never more than there are.
abbrev pub shown_cells : {R : Type 0} → Option ℕ → Snapshot R → ℕ
shown_cells asked s = min (unwrap_or asked (length (text s.document))) (length s.screen)

-- A request that is a call is carried out as the rules say, and its answer is written.
pub record CarriesOut {X : Type 0} (a : Automaton) (μ : Measure (Readings X)) (r : Asked) (before after : Snapshot (Readings X)) (out : Option (List ℕ)) : Type 0 where
  pub entry : Entry (Readings X)
  pub is_call : IsCall a.count (model_of before.document).due (length before.buffer) r entry.call
  pub obeys : Obeys a μ before entry
  pub leaves : entry.after ≡ after
  pub writes : out ≡ Some (written_of entry.call entry.answer after.buffer after.reading)

abbrev pub Replies : {X : Type 0} → Automaton → Measure (Readings X) → Asked → Snapshot (Readings X) → Snapshot (Readings X) → Option (List ℕ) → Type 0
Replies a μ PassedOver before after out = (after ≡ before) × (out ≡ None)
Replies a μ (Screen asked) before after out = (after ≡ before) × (out ≡ Some (digits (take (shown_cells asked before) before.screen)))
Replies a μ r before after out = CarriesOut a μ r before after out
