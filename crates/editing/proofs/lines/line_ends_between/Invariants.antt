use Rattle.std.proofs.Common.{◌≡◌, ◌-◌, ◌≤◌, min}
use Rattle.std.specs.List.{between}
use Rattle.measure.specs.Place.{line_ends}
use Rattle.editing.specs.Content.{text_in}
use Rattle.editing.proofs.lines.line_ends_between.Given as goal

-- The count is that of the blocks so far.
abbrev pub invariant-loop-at : goal.invariant-loop-at
invariant-loop-at g l = record {
  forward : l.from ≤ l.at;
  counted : l.count ≡ line_ends (between l.from (min l.at l.end) (text_in l.tree));
}

abbrev pub decreases-loop-at : goal.decreases-loop-at
decreases-loop-at g l = l.end - l.at
