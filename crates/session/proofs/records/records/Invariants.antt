use Rattle.std.proofs.Common.{◌≡◌, ◌++◌, length, vec_items}
use Rattle.std.specs.Option.{option_map}
use Rattle.session.specs.Records.{records_of}
use Rattle.session.proofs.records.records.Given as goal

-- The records so far and those that the words left are make all.
abbrev pub invariant-loop-left : goal.invariant-loop-left
invariant-loop-left l = option_map (λ rest. vec_items l.out ++ rest) (records_of l.left) ≡ records_of l.fn.left

-- Each word is taken off the front.
abbrev pub decreases-loop-left : goal.decreases-loop-left
decreases-loop-left l = length l.left
