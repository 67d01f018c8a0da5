-- How deep a search for a partner is: how many brackets of the one side it has met that are still unmatched, the first one too.
-- It stops at the bracket of the other side that would leave none of them.
use Rattle.std.specs.Prelude.{ℕ, ◌+◌, ◌-◌, ◌^◌, cond, ◌&&◌, Some, None, Option, nat_le, nat_lt}
use Rattle.automaton.specs.declared.role.Role.{Role}
use Rattle.automaton.specs.declared.role.Role.TheVariants.{Plain, Opening, Closing}
use Rattle.measure.specs.Bounded.{capped}

abbrev pub deeper : ℕ → Option ℕ
deeper depth = Some (capped (depth + 1))

abbrev pub shallower : ℕ → Option ℕ
shallower depth = cond (nat_le depth 1) None (Some (depth - 1))

-- Over a byte of a role: from left to right it counts openings, and closings match them.
abbrev pub depth_ahead : {K : Type 0} → Role K → ℕ → Option ℕ
depth_ahead Plain depth = Some depth
depth_ahead (Opening kind) depth = deeper depth
depth_ahead (Closing kind) depth = shallower depth

-- From right to left it counts closings.
abbrev pub depth_behind : {K : Type 0} → Role K → ℕ → Option ℕ
depth_behind Plain depth = Some depth
depth_behind (Opening kind) depth = shallower depth
depth_behind (Closing kind) depth = deeper depth

-- The greatest depth that is kept.
abbrev pub deepest : ℕ
deepest = 2 ^ 32 - 1

-- Over a text of so many bytes that leaves brackets unmatched: those that match some of the search's own, and those that add to them.
-- From left to right closings match and openings add, from right to left it is the other way round.
-- Nothing is said where the search may stop in the text, or where the count could come to its end.
abbrev pub depth_over : ℕ → ℕ → ℕ → ℕ → Option ℕ
depth_over depth length matching adding =
    cond (nat_le (depth + length) deepest && (nat_lt matching depth && nat_le ((depth - matching) + adding) deepest)) (Some ((depth - matching) + adding)) None
