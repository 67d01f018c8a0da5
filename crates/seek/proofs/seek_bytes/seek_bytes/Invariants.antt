use Rattle.std.proofs.Common.{◌≡◌, drop}
use Rattle.search.specs.Forwards.{stop, shifted}
use Rattle.seek.proofs.seek_bytes.seek_bytes.Given as goal

-- The search through all bytes is the search through what is left, so many bytes on.
abbrev pub invariant-loop-i : goal.invariant-loop-i
invariant-loop-i g l =
    let goes = g.S.Forward.goes l.search in
    stop goes l.initial.now_at l.bytes ≡ shifted l.i (stop goes l.now_at (drop l.i l.bytes))
