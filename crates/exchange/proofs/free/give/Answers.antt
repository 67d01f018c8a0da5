use Rattle.std.proofs.Common.{ℕ, ◌<◌, List, map, length, get_or, None, Option, refl, ap, ◌∙◌, arith}
use Rattle.std.proofs.lemmas.List.{get_or-set_same, map-set, length-map}
use Rattle.slots.specs.declared.slot.Slot.{Slot}
use Rattle.slots.proofs.Elsewhere.{elsewhere_written}
use Rattle.exchange.proofs.free.give.Goals as goal

pub returns-clause-elsewhere : goal.returns-clause-elsewhere
returns-clause-elsewhere g c = elsewhere_written c.args.memory.now _ c.args.i _ refl refl refl refl (λ j k e few. refl)

pub returns-clause-next : goal.returns-clause-next
returns-clause-next g c =
    let slots = c.args.memory.now.slots.now in
    let i = c.args.i in
    let room = c.requires.0.slot_each in
    let within : i < length slots = omega arith in
    ap (λ (z : List (Option ℕ)). get_or z i None) (map-set (λ (s : Slot g.row.R.Denot). s.next) slots i _)
    ∙ get_or-set_same (map (λ (s : Slot g.row.R.Denot). s.next) slots) i _ None (omega (arith, length-map slots (λ (s : Slot g.row.R.Denot). s.next)))
