-- What a line asks, and why it cannot be read, as values.
use Rattle.std.specs.Prelude.{ℕ, List, Option, Result, Ok, Err, codes}
use Rattle.model.specs.declared.change.Change.{Change}
use Rattle.model.specs.declared.replacement.Replacement.{Replacement}
use Rattle.session.specs.declared.problem.Problem.{Problem}
use Rattle.session.specs.declared.problem.Problem.TheVariants as problem
use Rattle.session.specs.declared.request.Request.{Request}
use Rattle.session.specs.declared.request.Request.TheVariants as request

pub data Asked : Type 0 where
  PassedOver : Asked
  Open : Asked
  Edit : (from to : ℕ) (bytes : List ℕ) → Asked
  Paint : (due : Option Change) → Asked
  Close : Asked
  Text : (from to : ℕ) (room : Option ℕ) → Asked
  Colours : (from to : ℕ) (room : Option ℕ) → Asked
  Size : Asked
  Screen : (cells : Option ℕ) → Asked
  Script : (text : List ℕ) (records : List Replacement) → Asked
  Range : (from to : ℕ) → Asked
  Same : (place : ℕ) (bytes : List ℕ) → Asked
  Place : (place : ℕ) → Asked
  Spot : (line column : ℕ) → Asked
  Partner : (place : ℕ) → Asked

abbrev pub asked : Request → Asked
asked request.PassedOver = PassedOver
asked request.Open = Open
asked (request.Edit from to bytes) = Edit from to bytes.items
asked (request.Paint due) = Paint due
asked request.Close = Close
asked (request.Text from to room) = Text from to room
asked (request.Colours from to room) = Colours from to room
asked request.Size = Size
asked (request.Screen cells) = Screen cells
asked (request.Script text records) = Script text.items records.items
asked (request.Range from to) = Range from to
asked (request.Same place bytes) = Same place bytes.items
asked (request.Place place) = Place place
asked (request.Spot line column) = Spot line column
asked (request.Partner place) = Partner place

-- What is read of a line, or its problem.
abbrev pub Reading : Type 0 → Type 0
Reading T = Result T Problem

abbrev pub meaning : Reading Request → Reading Asked
meaning (Ok r) = Ok (asked r)
meaning (Err p) = Err p

abbrev pub problem_text : Problem → List ℕ
problem_text problem.UnknownCall = codes "unknown call"
problem_text problem.Number = codes "a number from 0 to 4294967295 is wanted"
problem_text problem.Bytes = codes "bytes are wanted, as x and pairs of hexadecimal digits or as text in quotes"
problem_text problem.Record = codes "records are wanted as four numbers with commas between, FROM,TO,START,END"
problem_text problem.LeftOver = codes "words are left over behind the call"
