use Rattle.std.proofs.Common.{◌≡◌, suc, sym, ◌∙◌, arith}
use Rattle.chunks.specs.Tree.{height, Level}
use Rattle.chunks.specs.Sides.{around}
use Rattle.chunks.proofs.Sides.{root_around}
use Rattle.slots.proofs.Turning.{ready_turned, joined_turned}
use Rattle.slots.proofs.Rotating.{steep_higher, steep_lower}
use Rattle.slots.proofs.Joining.{settled_linked}
use Rattle.balance.proofs.join.settle.Goals as goal

pub returns-then-is_some : goal.returns-then-is_some
returns-then-is_some g c a b grown =
    let ready = grown.ready in
    let far = grown.far_low in
    let higher = steep_higher b a 1 _ (c.top_if_higher.ensures b a ready.far_root ready.near_root ready.far_holds ready.near_holds) (sym c.is_some.ensures ∙ c.if-is_some.true) in
    let two : height b ≡ suc (suc (height a)) = omega arith in
    let made = c.rotate.ensures b a (ready_turned ready) two in
    (made.0, (made.1.0, record { joined = joined_turned c.other.ensures made.1.1; exact = λ low. let no : ⊥ = omega arith in absurd no }))

pub returns-else-is_some : goal.returns-else-is_some
returns-else-is_some g c a b grown =
    let ready = grown.ready in
    let near = grown.near_low in
    let low = steep_lower b a 1 _ (c.top_if_higher.ensures b a ready.far_root ready.near_root ready.far_holds ready.near_holds) (sym c.is_some.ensures ∙ c.if-is_some.false) in
    let level : Level a b = record { left_low = near; right_low = omega arith } in
    (around c.args.side a c.args.i b, (sym (root_around c.args.side a _ b), settled_linked (c.link_around.ensures a b ready level)))
