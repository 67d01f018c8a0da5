use Rattle.slots.proofs.Rotating.{once_first, once_second, once_joined}
use Rattle.balance.proofs.join.rotate_once.Goals as goal

pub link_around-requires : goal.link_around-requires
link_around-requires g c =
    let p = c.requires.1.1.1 in
    (c.requires.1.0, (c.requires.1.1.0, once_first p.0 p.1))

pub link_around-requires-2 : goal.link_around-requires-2
link_around-requires-2 g c =
    let p = c.requires.1.1.1 in
    let f = once_first p.0 p.1 in
    (c.requires.0, (_, once_second p.0 p.1 _ (c.link_around.ensures _ _ f.0 f.1)))

pub returns : goal.returns
returns g c o n b lean flat =
    let f = once_first lean flat in
    let first = c.link_around.ensures _ _ f.0 f.1 in
    let s = once_second lean flat _ first in
    once_joined lean flat _ first _ (c.link_around-2.ensures _ _ s.0 s.1)
