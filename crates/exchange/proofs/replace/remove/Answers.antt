use Rattle.slots.proofs.Replacing.{held_whole, held_front, held_back, removed_parted, removed}
use Rattle.exchange.proofs.replace.remove.Goals as goal

pub split-middle-requires : goal.split-middle-requires
split-middle-requires g c =
    let held = held_whole c.requires.whole.1.1 in
    let made = c.split-first.ensures _ held in
    (made.1.0, held_back held made.1.1.1.1 _ made.1.1.1.0)

pub give_back-requires : goal.give_back-requires
give_back-requires g c =
    let held = held_whole c.requires.whole.1.1 in
    let made = c.split-first.ensures _ held in
    let rest = held_back held made.1.1.1.1 _ made.1.1.1.0 in
    let next = c.split-middle.ensures _ rest in
    (next.0, held_front rest next.1.1.1.1 _ next.1.1.0)

pub returns : goal.returns
returns g c t is whole =
    let held = held_whole whole in
    let made = c.split-first.ensures _ held in
    let rest = held_back held made.1.1.1.1 _ made.1.1.1.0 in
    let next = c.split-middle.ensures _ rest in
    let given = c.give_back.ensures _ (held_front rest next.1.1.1.1 _ next.1.1.0) in (
      made.0,
      (
        next.1.0,
        (
          _,
          (
            removed_parted whole c.args.from c.args.to c.requires.order made.1.1.1.1 _ made.1.1.1.0 next.1.1.1.1 given _ _ made.1.1.0 next.1.1.1.0,
            removed whole c.args.from c.args.to c.requires.order made.1.1.1.1 _ made.1.1.1.0 next.1.1.1.1 given,
          ),
        ),
      ),
    )
