-- What an edit does to the text and to its chunks. An edit puts new bytes in the place of those from `from` up to `to`.
use Rattle.std.specs.Prelude.{ℕ, ◌+◌, ◌-◌, Bool, cond, ◌&&◌, List, ◌++◌, length, take, drop, ◌==◌, nat_le, nat_lt}
use Rattle.std.specs.List.{between}
use Rattle.chunks.specs.Cut.{joined, cut, replaced}
use Rattle.chunks.specs.Spot.{spot_in}
use Rattle.model.specs.declared.run.Run.{Run}

abbrev pub edited_text : List ℕ → ℕ → ℕ → List ℕ → List ℕ
edited_text text from to new = take from text ++ (new ++ drop to text)

-- The chunks from `first` up to `last`, with the places where they begin and end.
abbrev pub run_of : List (List ℕ) → ℕ → ℕ → Run
run_of chunks first last = record {
  first = first;
  last = last;
  start = length (joined (take first chunks));
  end = length (joined (take last chunks));
}

-- The first and the last byte whose chunks an edit touches: those of its range, or, where that is empty, the byte before it
-- (at place 0 the first byte).
abbrev pub first_byte : ℕ → ℕ → ℕ
first_byte from to = cond (nat_lt from to) from (from - 1)

abbrev pub last_byte : ℕ → ℕ → ℕ
last_byte from to = cond (nat_lt from to) (to - 1) (from - 1)

-- The chunks that an edit touches: in an empty text there are none.
unfoldable pub touched : List (List ℕ) → ℕ → ℕ → Run
touched chunks from to =
    cond (length (joined chunks) == 0) (run_of chunks 0 0)
    (run_of chunks (spot_in chunks (first_byte from to)).chunk ((spot_in chunks (last_byte from to)).chunk + 1))

-- How many bytes come in the place of a run: what is left of its chunks, and the new bytes.
abbrev pub middle_length : Run → ℕ → ℕ → ℕ → ℕ
middle_length run from to count = (from - run.start) + (count + (run.end - to))

-- So few bytes, where there are any, take a neighbour along: the chunk on the right, else the one on the left, if there is one.
abbrev pub few : ℕ → Bool
few j = nat_le 1 j && nat_le j 31

abbrev pub with_neighbour : List (List ℕ) → Run → Run
with_neighbour chunks run =
    cond (nat_lt run.last (length chunks)) (run_of chunks run.first (run.last + 1))
    (cond (nat_lt 0 run.first) (run_of chunks (run.first - 1) run.last) run)

-- The chunks that an edit replaces.
unfoldable pub affected : List (List ℕ) → ℕ → ℕ → ℕ → Run
affected chunks from to count =
    let run = touched chunks from to in
    cond (few (middle_length run from to count)) (with_neighbour chunks run) run

-- The bytes that come in their place, and the chunks after the edit.
abbrev pub middle : List ℕ → Run → ℕ → ℕ → List ℕ → List ℕ
middle text run from to new = between run.start from text ++ (new ++ between to run.end text)

unfoldable pub edited_chunks : List (List ℕ) → ℕ → ℕ → List ℕ → List (List ℕ)
edited_chunks chunks from to new =
    let run = affected chunks from to (length new) in
    replaced run.first run.last (cut (middle (joined chunks) run from to new)) chunks
