use Rattle.std.proofs.Common.{◌≡◌, Some}
use Rattle.chunks.specs.Tree.{Tree, root}
use Rattle.chunks.specs.Sides.{around}
use Rattle.slots.specs.Claim.{nothing}
use Rattle.slots.specs.Join.{Leaning}
use Rattle.slots.proofs.Turning.{parts, holds_turned}
use Rattle.slots.proofs.Rotating.{twice_first, twice_second, twice_third, twice_joined}
use Rattle.balance.proofs.join.rotate_twice.Given as given
use Rattle.balance.proofs.join.rotate_twice.Goals as goal
use Rattle.balance.proofs.join.rotate_twice.Goals.{After-child-far}

-- What the slot `j` has on its sides.
sides_of : (g : given.Over) (c : goal.After-child-far g) (o x y b : Tree) → Leaning c.args.memory.now c.args.side c.args.outer o c.args.k (Some c.args.j) (around c.args.side x c.args.j y) c.args.i c.args.short b →
    (c.child-near.result ≡ root x) × (c.child-far.result ≡ root y)
sides_of g c o x y b lean =
    let inner = (parts nothing _ _ _ _ _ lean.ready.near_holds).far in
    (c.child-near.ensures x y inner, c.child-far.ensures y x (holds_turned nothing _ _ _ x _ y c.other.ensures inner))

pub link_around-requires : goal.link_around-requires
link_around-requires g c =
    let x = c.requires.1.0 in
    let y = c.requires.1.1.0 in
    let p = c.requires.1.1.1.1 in
    let link = sides_of g (goal.at.link_around-requires g c).After-child-far _ x y _ p.0 in
    (c.requires.0, (x, twice_first x y p.0 p.1 _ link.0))

pub link_around-requires-2 : goal.link_around-requires-2
link_around-requires-2 g c =
    let x = c.requires.1.0 in
    let y = c.requires.1.1.0 in
    let p = c.requires.1.1.1.1 in
    let link = sides_of g (goal.at.link_around-requires-2 g c).After-child-far _ x y _ p.0 in
    let f = twice_first x y p.0 p.1 _ link.0 in
    (y, (_, twice_second x y p.0 p.1 _ (c.link_around.ensures _ _ f.0 f.1) _ link.1))

pub link_around-requires-3 : goal.link_around-requires-3
link_around-requires-3 g c =
    let x = c.requires.1.0 in
    let y = c.requires.1.1.0 in
    let p = c.requires.1.1.1.1 in
    let link = sides_of g (goal.at.link_around-requires-3 g c).After-child-far _ x y _ p.0 in
    let f = twice_first x y p.0 p.1 _ link.0 in
    let first = c.link_around.ensures _ _ f.0 f.1 in
    let s = twice_second x y p.0 p.1 _ first _ link.1 in
    (_, (_, twice_third x y p.0 p.1 _ first _ (c.link_around-2.ensures _ _ s.0 s.1)))

pub returns : goal.returns
returns g c o x y b lean steep =
    let link = sides_of g (goal.at.returns g c).After-child-far o x y b lean in
    let f = twice_first x y lean steep _ link.0 in
    let first = c.link_around.ensures _ _ f.0 f.1 in
    let s = twice_second x y lean steep _ first _ link.1 in
    let second = c.link_around-2.ensures _ _ s.0 s.1 in
    let t = twice_third x y lean steep _ first _ second in
    twice_joined x y lean steep _ first _ second _ (c.link_around-3.ensures _ _ t.0 t.1)
