use Rattle.std.proofs.Common.{ℕ, ◌+◌, length, ap, subst, arith}
use Rattle.std.proofs.lemmas.List.{length-map}
use Rattle.chunks.specs.Tree.{slots}
use Rattle.slots.specs.View.{chunk_of}
use Rattle.slots.specs.Sound.{tree_of}
use Rattle.slots.specs.Rewrite.{Rewritten}
use Rattle.slots.proofs.Reading.{whole_sound, sound_whole}
use Rattle.slots.proofs.Replacing.{held_whole}
use Rattle.slots.proofs.Rangewise.{slots_few}
use Rattle.slots.proofs.Overwritten.{overwritten_whole, overwritten_chunks, overwritten_kept, overwritten_size}
use Rattle.in_place.proofs.rewrite.overwrite.Goals as goal

pub rewrite-requires-clause-held : goal.rewrite-requires-clause-held
rewrite-requires-clause-held g c =
    let m = c.args.memory.now in
    let held = held_whole (whole_sound _ _ c.requires.sound) in
    let within = c.requires.within in
    let cut = c.of-cut.ensures in
    let size = ap (length {A = ℕ}) cut.bytes in
    let few = slots_few held in
    let long = length-map (slots (tree_of m c.args.link)) (chunk_of m) in
    (_, (held, omega arith))

pub returns : goal.returns
returns g c =
    let μ = g.M.Meter.scale c.args.meter.now in
    let m = c.args.memory.now in
    let bytes = c.args.bytes.now in
    let from = c.args.from in
    let t = tree_of m c.args.link in
    let whole = whole_sound _ _ c.requires.sound in
    let cut = c.of-cut.ensures in
    let made = c.rewrite.ensures t (held_whole whole) in
    let made_of = subst (λ bs. Rewritten μ m t 0 bs c.of-cut.result.count from (from + c.of-cut.result.count) c.rewrite.new.memory) cut.bytes made in
    let done = subst (λ q. Rewritten μ m t 0 bytes q from (from + q) c.rewrite.new.memory) cut.count made_of in
    record {
      sound = sound_whole (overwritten_whole t whole bytes from c.requires.within done);
      chunks = overwritten_chunks t whole bytes from c.requires.within done;
      keeps = overwritten_kept t whole bytes from c.requires.within done;
      size = overwritten_size t whole bytes from c.requires.within done;
    }
