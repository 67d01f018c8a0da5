use Rattle.std.proofs.Common.{ℕ, suc, ◌<◌, sym, ◌∙◌, arith}
use Rattle.chunks.specs.Tree.{Tree, height, Level}
use Rattle.chunks.specs.Sides.{around}
use Rattle.chunks.proofs.Sides.{root_around}
use Rattle.slots.specs.Holds.{Ready}
use Rattle.slots.proofs.Turning.{ready_turned, joined_turned, joined_linked}
use Rattle.slots.proofs.Rotating.{Seen, seen, steep_higher, steep_lower}
use Rattle.slots.proofs.Joining.{height_held, down_ready, down_lower, down_grown, down_joined}
use Rattle.balance.proofs.join.+join.Given as given
use Rattle.balance.proofs.join.+join.Goals as goal
use Rattle.balance.proofs.join.+join.Goals.{After-child-inner}

-- The two sides of the slot on top of the near tree, which is the higher.
opened : (g : given.Over) (t : ℕ) (c : goal.After-child-inner g t) (a b : Tree) → Ready c.args.memory.now c.args.near a c.args.i c.args.far b → Seen c.args.memory.now c.args.side c.child-outer.result c.child-inner.result c.in-Some.k a × (suc (height b) < height a)
opened g t c a b ready =
    let higher = c.in-Some.ensures a b ready.near_root ready.far_root ready.near_holds ready.far_holds in
    (seen c.other.ensures c.child-outer.ensures c.child-inner.ensures a higher.0 ready.near_holds, omega (arith, higher.1))

pub join-joined-requires : goal.join-joined-requires
join-joined-requires g t c κs within =
    let ready = c.requires.1.1 in
    let p = opened g t (goal.at.join-joined-requires g t c).After-child-inner _ _ ready in
    let v = p.0 in
    let m = c.args.memory.now in
    let near = height_held m ready.roomy _ _ ready.near_root ready.near_holds in
    let inner = height_held m ready.roomy v.n _ v.inner_root v.far in
    let lower = down_lower _ ready v p.1 in
    let measured = c.decreases in
    (omega arith, (within.0, (within.1, (v.n, (c.requires.1.0, down_ready _ ready v p.1)))))

pub settle-requires : goal.settle-requires
settle-requires g t c =
    let ready = c.requires.1.1 in
    let p = opened g t (goal.at.settle-requires g t c).After-child-inner _ _ ready in
    let v = p.0 in
    let made = c.join-joined.ensures v.n _ (down_ready _ ready v p.1) in
    (v.o, (made.0, down_grown _ ready v p.1 _ made.0 _ made.1.0 made.1.1))

pub join-requires : goal.join-requires
join-requires g t c κs within =
    let ready = c.requires.1.1 in
    let m = c.args.memory.now in
    let near = height_held m ready.roomy _ _ ready.near_root ready.near_holds in
    let far = height_held m ready.roomy _ _ ready.far_root ready.far_holds in
    let higher = steep_higher c.requires.1.0 c.requires.0 1 _ (c.top_if_higher-in_default.ensures _ _ ready.far_root ready.near_root ready.far_holds ready.near_holds) (sym c.is_some.ensures ∙ c.if-is_some.true) in
    let measured = c.decreases in
    (omega arith, (within.0, (within.1, (c.requires.1.0, (c.requires.0, ready_turned ready)))))

pub returns-in-Some : goal.returns-in-Some
returns-in-Some g t c a b ready =
    let p = opened g t (goal.at.returns-in-Some g t c).After-child-inner a b ready in
    let v = p.0 in
    let made = c.join-joined.ensures v.n b (down_ready _ ready v p.1) in
    let grown = down_grown _ ready v p.1 _ made.0 _ made.1.0 made.1.1 in
    let done = c.settle.ensures v.o made.0 grown in
    (done.0, (done.1.0, down_joined _ ready v p.1 _ made.0 _ made.1.0 made.1.1 _ done.0 done.1.1))

pub returns-then-is_some : goal.returns-then-is_some
returns-then-is_some g t c a b ready =
    let made = c.join.ensures b a (ready_turned ready) in
    (made.0, (made.1.0, joined_turned c.other-then-is_some.ensures made.1.1))

pub returns-else-is_some : goal.returns-else-is_some
returns-else-is_some g t c a b ready =
    let near = c.in_default.ensures a b ready.near_root ready.far_root ready.near_holds ready.far_holds in
    let far = steep_lower b a 1 _ (c.top_if_higher-in_default.ensures b a ready.far_root ready.near_root ready.far_holds ready.near_holds) (sym c.is_some.ensures ∙ c.if-is_some.false) in
    let level : Level a b = record { left_low = omega (arith, near); right_low = omega arith } in
    (around c.args.side a c.args.i b, (sym (root_around c.args.side a _ b), joined_linked (c.link_around.ensures a b ready level)))
