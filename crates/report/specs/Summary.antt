-- What the program says of a text's extent: how long it is, where it ends, and its brackets from the first byte on.
use Rattle.std.specs.Prelude.{ℕ, cond, List, ◌++◌, length, Some, None, codes, decimal, Option, nat_le}
use Rattle.automaton.specs.Automaton.{Automaton}
use Rattle.automaton.specs.Walk.{walk}
use Rattle.measure.specs.Bounded.{longest}
use Rattle.measure.specs.Place.{line_ends, units}
use Rattle.measure.specs.Unmatched.{unmatched_closings, unmatched_openings}
use Rattle.measure.specs.Walk.{entry_at}
use Rattle.measure.specs.declared.place_reading.Extent.{Extent}
use Rattle.measure.specs.declared.walk_reading.Passage.{Passage}
use Rattle.report.specs.declared.summary.Summary.{Summary}

-- Nothing is said of a text that is overlong.
abbrev pub summary : Automaton → List ℕ → Option Summary
summary a text =
    cond (nat_le (length text) longest)
    (Some (record {
      length = length text;
      lines = line_ends text;
      units = units text;
      state = walk a 0 text;
      closings = unmatched_closings a 0 text;
      openings = unmatched_openings a 0 text;
    }))
    None

-- The same from the readings of the two meters: the walk begun in state 0, and the place behind the text.
abbrev pub summarized : Option Passage → Option Extent → Option Summary
summarized None place = None
summarized (Some p) None = None
summarized (Some p) (Some e) =
    Some (record {
      length = e.length;
      lines = e.lines;
      units = e.units;
      state = (entry_at p.entries 0).end;
      closings = (entry_at p.entries 0).closings;
      openings = (entry_at p.entries 0).openings;
    })

abbrev pub summary_line : Option Summary → List ℕ
summary_line None = codes "overlong"
summary_line (Some s) =
    codes "length " ++ (decimal s.length ++ (codes " lines " ++ (decimal s.lines ++ (codes " units " ++ (decimal s.units
    ++ (codes " state " ++ (decimal s.state ++ (codes " closings " ++ (decimal s.closings ++ (codes " openings " ++ decimal s.openings))))))))))
