use Rattle.std.proofs.Common.{◌<◌, length, refl, ap, arith}
use Rattle.std.proofs.lemmas.List.{get_or-set_same, get_or_default}
use Rattle.slots.specs.declared.slot.Slot.{Slot}
use Rattle.slots.proofs.Frame.{frame_written}
use Rattle.balance.proofs.link.place.Goals as goal

pub returns : goal.returns
returns g c =
    let m = c.args.memory.now in
    let i = c.args.i in
    let old = c.index-memory-i.result in
    let room = c.requires.0.slot_each in
    let also = c.requires.0.reading_each in
    let within : i < length m.slots.now = omega arith in
    let read : i < length m.readings.now = omega arith in
    let other = get_or_default m.slots.now i old _ within in
    record {
      frame = frame_written m _ i _ c.args.sum within refl refl refl refl refl (ap (λ (s : Slot g.row.R.Denot). s.size) other) (ap (λ (s : Slot g.row.R.Denot). s.next) other) (ap (λ (s : Slot g.row.R.Denot). s.own) other);
      place_is = λ d. ap (λ (s : Slot g.row.R.Denot). s.node) (get_or-set_same m.slots.now i _ d within);
      sum_is = λ d. get_or-set_same m.readings.now i _ d read;
    }
