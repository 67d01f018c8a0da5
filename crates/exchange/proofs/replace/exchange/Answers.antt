use Rattle.slots.proofs.Reading.{whole_sound, sound_whole}
use Rattle.slots.proofs.Exchanging.{enough_free, exchanged_chunks, exchanged_kept, exchanged_size}
use Rattle.exchange.proofs.replace.exchange.Goals as goal

pub remove-first-requires-clause-whole : goal.remove-first-requires-clause-whole
remove-first-requires-clause-whole g c = (_, (_, whole_sound _ _ c.requires.sound))

pub insert-requires : goal.insert-requires
insert-requires g c =
    let cut = c.remove-first.ensures _ _ (whole_sound _ _ c.requires.sound) in
    let p = cut.1.1.1 in
    (_, (_, (_, (p.0, enough_free _ c.requires.order c.requires.within c.args.bytes.now c.requires.room p.0 p.1))))

pub returns : goal.returns
returns g c =
    let cut = c.remove-first.ensures _ _ (whole_sound _ _ c.requires.sound) in
    let p = cut.1.1.1 in
    let enough = enough_free _ c.requires.order c.requires.within c.args.bytes.now c.requires.room p.0 p.1 in
    let done = c.insert.ensures _ _ _ p.0 enough in
    let q = done.1.1 in
    record {
      sound = sound_whole q.0;
      chunks = exchanged_chunks _ c.requires.order c.requires.within c.args.bytes.now c.requires.room p.0 p.1 q.0 q.1;
      keeps = exchanged_kept _ c.requires.order c.requires.within c.args.bytes.now c.requires.room p.0 p.1 q.0 q.1;
      size = exchanged_size _ c.requires.order c.requires.within c.args.bytes.now c.requires.room p.0 p.1 q.0 q.1;
    }
