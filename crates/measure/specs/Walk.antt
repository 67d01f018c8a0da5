-- The meter of walks: from each state, where a walk through the text ends and which brackets it leaves unmatched.
-- It measures for a grammar, whose meaning is the automaton a.
use Rattle.std.specs.Prelude.{◌≡◌, ℕ, ◌+◌, ◌-◌, ◌<◌, ◌≤◌, min, cond, List, map, length, nat_lt, slice_index_or, Option, Some}
use Rattle.std.specs.List.{range_with_len}
use Rattle.automaton.specs.Automaton.{Automaton}
use Rattle.automaton.specs.Bracket.{role}
use Rattle.automaton.specs.Walk.{walk}
use Rattle.measure.specs.Measure.{Measure, reading}
use Rattle.measure.specs.Bounded.{bounded, join_bounded, capped}
use Rattle.measure.specs.Unmatched.{opens, closes, unmatched_closings, unmatched_openings, Unmatched}
use Rattle.measure.specs.declared.walk_reading.Entry.{Entry}
use Rattle.measure.specs.declared.walk_reading.Passage.{Passage}

-- The entry of a walk that begins in s.
abbrev pub entry : Automaton → ℕ → List ℕ → Entry
entry a s text = record { end = walk a s text; closings = unmatched_closings a s text; openings = unmatched_openings a s text }

-- One entry for each of the 64 states.
unfoldable pub rows : (ℕ → Entry) → List Entry
rows f = map f (range_with_len 0 64)

-- What the meter says of a text.
abbrev pub passage : Automaton → List ℕ → Passage
passage a text = record { length = length text; entries = rows (λ s. entry a s text) }

abbrev pub walk_reading : Automaton → List ℕ → Option Passage
walk_reading a = bounded (passage a)

-- A walk through nothing.
abbrev pub still : ℕ → Entry
still s = record { end = s; closings = 0; openings = 0 }

-- A walk over one byte.
abbrev pub over_byte : Automaton → ℕ → ℕ → Entry
over_byte a b s = record { end = a.step s b; closings = closes (role a s b); openings = opens (role a s b) }

-- Two walks, the second from where the first ends: openings of the first match closings of the second, as many as go.
abbrev pub join_entries : Entry → Entry → Entry
join_entries e f = record {
  end = f.end;
  closings = capped (e.closings + (f.closings - min e.openings f.closings));
  openings = capped (f.openings + (e.openings - min e.openings f.closings));
}

-- A walk that is led on through a text.
abbrev pub led_on : Automaton → List ℕ → Entry → Entry
led_on a text e = join_entries e (entry a e.end text)

-- The entry of a state; a state without an entry stays.
abbrev pub entry_at : List Entry → ℕ → Entry
entry_at entries s = slice_index_or entries s (still s)

-- The first walk leads to an entry of the second table.
abbrev pub onward : List Entry → List Entry → ℕ → Entry
onward left right s = join_entries (entry_at left s) (entry_at right (entry_at left s).end)

-- Only from the n states of the grammar does a walk go anywhere.
abbrev pub through : ℕ → List Entry → List Entry → ℕ → Entry
through n left right s = cond (nat_lt s n) (onward left right s) (entry_at left s)

abbrev pub join_passages : ℕ → Passage → Passage → Passage
join_passages n p q = record { length = p.length + q.length; entries = rows (through n p.entries q.entries) }

abbrev pub walk_measure : Automaton → Measure (Option Passage)
walk_measure a = record {
  empty = Some (record { length = 0; entries = rows still });
  single = λ b. Some (record { length = 1; entries = rows (over_byte a b) });
  join = join_bounded (λ p. p.length) (join_passages a.count);
}

-- The reading of every text is what is said of it above.
abbrev pub WalkReadsText : Automaton → Type 0
WalkReadsText a = (text : List ℕ) → reading (walk_measure a) text ≡ walk_reading a text

-- What is true of the entry of state s in a passage of a text.
pub record Tells (a : Automaton) (text : List ℕ) (s : ℕ) (e : Entry) : Type 0 where
  pub ends : e.end ≡ walk a s text
  pub unmatched : Unmatched a s text e.closings e.openings
  pub ends_below : e.end < 64
  pub few_brackets : e.closings + e.openings ≤ length text
  -- a state that is none of the grammar's is passed by
  pub outside : a.count ≤ s → e ≡ still s

-- Every passage that is a text's reading tells of that text, from each state.
abbrev pub EntriesTell : Automaton → Type 0
EntriesTell a = (text : List ℕ) (p : Passage) → reading (walk_measure a) text ≡ Some p → (p.length ≡ length text) × (length p.entries ≡ 64) × ((s : ℕ) → s < 64 → Tells a text s (entry_at p.entries s))
