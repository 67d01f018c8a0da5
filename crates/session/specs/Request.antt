-- What a line asks: the name of a call, and what belongs to it. A line with no word, or that begins with #, is passed over.
use Rattle.std.specs.Prelude.{ℕ, cond, List, [], ◌∷◌, Some, None, Option, Ok, Err, ◌==◌}
use Rattle.std.specs.Option.{ok_or}
use Rattle.model.specs.declared.change.Change.{Change}
use Rattle.notation.specs.Words.{word, behind, is_over}
use Rattle.notation.specs.Number.{number_of}
use Rattle.notation.specs.Bytes.{bytes_then, bytes_of}
use Rattle.session.specs.Records.{records_of}
use Rattle.session.specs.Names.{named}
use Rattle.session.specs.Asked.{Asked, Reading}
use Rattle.session.specs.Asked.{PassedOver, Open, Edit, Paint, Close, Text, Colours, Size, Screen, Script, Range, Same, Place, Spot, Partner}
use Rattle.session.specs.declared.call_name.CallName.{CallName}
use Rattle.session.specs.declared.call_name.CallName.TheVariants as name
use Rattle.session.specs.declared.problem.Problem.TheVariants.{UnknownCall, Number, Bytes, Record, LeftOver}

-- What is read, and then more with it; the first problem is the one that is told.
abbrev pub and_then : {T U : Type 0} → Reading T → (T → Reading U) → Reading U
and_then (Err problem) go = Err problem
and_then (Ok x) go = go x

-- No word is left behind what was read.
abbrev pub if_over : {T : Type 0} → List ℕ → T → Reading T
if_over left x = cond (is_over left) (Ok x) (Err LeftOver)

-- A number as the next word.
abbrev pub number_in : List ℕ → Reading ℕ
number_in left = ok_or (number_of (word left)) Number

abbrev pub range_in : List ℕ → Reading (ℕ × ℕ)
range_in left = and_then (number_in left) (λ from. and_then (number_in (behind left)) (λ to. Ok (from, to)))

-- One number and no more, and two.
abbrev pub only_number : List ℕ → Reading ℕ
only_number left = and_then (number_in left) (λ n. if_over (behind left) n)

abbrev pub only_range : List ℕ → Reading (ℕ × ℕ)
only_range left = and_then (range_in left) (λ ns. if_over (behind (behind left)) ns)

-- A number as the last word, if there is a word.
abbrev pub last_number : List ℕ → Reading (Option ℕ)
last_number left = cond (is_over left) (Ok None) (and_then (only_number left) (λ n. Ok (Some n)))

-- The four numbers of a due as the last words, if there is a word.
abbrev pub due_in : List ℕ → Reading (Option Change)
due_in left =
    cond (is_over left) (Ok None)
    (and_then (range_in left) (λ first. and_then (only_range (behind (behind left))) (λ second.
    Ok (Some (record { place = first.0; removed = first.1; inserted = second.0; end = second.1 })))))

-- A range and the room for it, if it is told.
abbrev pub range_and_room : List ℕ → Reading (ℕ × ℕ × Option ℕ)
range_and_room left =
    and_then (range_in left) (λ range. and_then (last_number (behind (behind left))) (λ room. Ok (range.0, range.1, room)))

abbrev pub with_room : (ℕ → ℕ → Option ℕ → Asked) → List ℕ → Reading Asked
with_room ask left = and_then (range_and_room left) (λ read. Ok (ask read.0 read.1 read.2))

abbrev pub edit_in : List ℕ → Reading Asked
edit_in left =
    and_then (range_in left) (λ range. and_then (ok_or (bytes_of (behind (behind left))) Bytes) (λ bytes. Ok (Edit range.0 range.1 bytes)))

-- The text of a script, and its records behind it.
abbrev pub script_in : List ℕ → Reading Asked
script_in left =
    and_then (ok_or (bytes_then left) Bytes) (λ text. and_then (ok_or (records_of text.1) Record) (λ records. Ok (Script text.0 records)))

abbrev pub same_in : List ℕ → Reading Asked
same_in left = and_then (number_in left) (λ place. and_then (ok_or (bytes_of (behind left)) Bytes) (λ bytes. Ok (Same place bytes)))

-- What asks with one number and no more, and with two.
abbrev pub with_number : (ℕ → Asked) → List ℕ → Reading Asked
with_number ask left = and_then (only_number left) (λ n. Ok (ask n))

abbrev pub with_numbers : (ℕ → ℕ → Asked) → List ℕ → Reading Asked
with_numbers ask left = and_then (only_range left) (λ ns. Ok (ask ns.0 ns.1))

-- What belongs to each call.
abbrev pub call_in : CallName → List ℕ → Reading Asked
call_in name.Open left = if_over left Open
call_in name.Edit left = edit_in left
call_in name.Paint left = and_then (due_in left) (λ due. Ok (Paint due))
call_in name.Close left = if_over left Close
call_in name.Text left = with_room Text left
call_in name.Colours left = with_room Colours left
call_in name.Size left = if_over left Size
call_in name.Screen left = and_then (last_number left) (λ cells. Ok (Screen cells))
call_in name.Script left = script_in left
call_in name.Range left = with_numbers Range left
call_in name.Same left = same_in left
call_in name.Place left = with_number Place left
call_in name.Spot left = with_numbers Spot left
call_in name.Partner left = with_number Partner left

abbrev pub request_at : List ℕ → List ℕ → Reading Asked
request_at [] left = Ok PassedOver
request_at (b ∷ bs) left = cond (b == 0x23) (Ok PassedOver) (and_then (ok_or (named (b ∷ bs)) UnknownCall) (λ name. call_in name left))

abbrev pub request_of : List ℕ → Reading Asked
request_of line = request_at (word line) (behind line)
