use Rattle.std.proofs.Common.{◌≡◌, ◌≤◌, length, take, drop}
use Rattle.std.specs.Slice.Iter.{iter_rest}
use Rattle.editing.specs.Content.{scale_of}
use Rattle.document.specs.Content.{new_model}
use Rattle.document.specs.Snapshot.{seen, SameDesk}
use Rattle.document.specs.Log.{lent_by}
use Rattle.document.proofs.Replays.{Going}
use Rattle.document.proofs.replaying.replay.Given as goal

-- The calls so far are a lawful log that comes to what is there now, and the others are left; the answers behind them are as they were.
abbrev pub invariant-loop-answer : goal.invariant-loop-answer
invariant-loop-answer g l =
    let a = g.G.Grammar.meaning l.meter.first.grammar in
    let μ = scale_of g.G.Grammar.meaning g.H.Meter.scale l.meter in
    let i = l.answer-index in
    Going a μ (new_model (length l.fn.slots) (length l.fn.store) (length l.fn.readings)) (lent_by l.initial.desk) (take i l.calls) (take i l.answers) (seen l.document l.desk)
    × (drop i l.answers ≡ drop i l.initial.answers) × SameDesk l.initial.desk l.desk × (iter_rest l.left ≡ drop i l.calls) × (i ≤ length l.calls)
