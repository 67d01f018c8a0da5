use Rattle.std.proofs.Common.{◌≡◌, ◌++◌, ℕ, map, take, drop}
use Rattle.std.specs.Prelude.{IfSome}
use Rattle.measure.specs.Walk.{entry, led_on}
use Rattle.measure.specs.declared.walk_reading.Entry.{Entry}
use Rattle.walks.proofs.walk_meter.Walk.lead_on.Given as goal

-- The walks so far are led on, and the last of those that led them is right from where it began.
abbrev pub invariant-loop-walk : goal.invariant-loop-walk
invariant-loop-walk g l =
    let a = g.G.Grammar.meaning l.self.grammar in
    (take l.walk-index l.walks ++ map (led_on a l.bytes) (drop l.walk-index l.walks) ≡ map (led_on a l.bytes) l.initial.walks) × IfSome l.last (λ (w : ℕ × Entry). w.1 ≡ entry a w.0 l.bytes)
