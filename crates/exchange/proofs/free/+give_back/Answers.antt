use Rattle.std.proofs.Common.{sym, subst, arith}
use Rattle.chunks.specs.Tree.{Tree}
use Rattle.slots.proofs.Splitting.{held_height, halves}
use Rattle.slots.proofs.Giving.{GivenBack, right_held, top_known, given_node}
use Rattle.exchange.proofs.free.+give_back.Goals as goal

pub give_back-requires : goal.give_back-requires
give_back-requires g t c κs within =
    let h = halves c.in-Some.is c.requires.1 c.child-left.ensures c.child-right.ensures in
    let measured = c.decreases in
    (omega (arith, h.left_lower), (within, (h.l, h.left_held)))

pub give_back-requires-in-Some : goal.give_back-requires-in-Some
give_back-requires-in-Some g t c κs within =
    let h = halves c.in-Some.is c.requires.1 c.child-left.ensures c.child-right.ensures in
    let first = c.give_back.ensures _ h.left_held in
    let right = right_held h.top _ first _ h.right_held.root_is in
    let measured = c.decreases in
    (omega (arith, h.right_lower, held_height h.right_held, held_height right), (within, (h.r, right)))

pub give-requires : goal.give-requires
give-requires g t c =
    let h = halves c.in-Some.is c.requires.1 c.child-left.ensures c.child-right.ensures in
    let first = c.give_back.ensures _ h.left_held in
    top_known h.top _ first _ (c.give_back-in-Some.ensures _ (right_held h.top _ first _ h.right_held.root_is))

pub returns-in-Some : goal.returns-in-Some
returns-in-Some g t c tree held =
    let h = halves c.in-Some.is held c.child-left.ensures c.child-right.ensures in
    let first = c.give_back.ensures _ h.left_held in
    let second = c.give_back-in-Some.ensures _ (right_held h.top _ first _ h.right_held.root_is) in
    let all = given_node h.top _ first _ second _ c.give.ensures.elsewhere c.give.ensures.free c.give.ensures.next in
    subst (λ (z : Tree). GivenBack c.args.memory.now z c.give.new.memory) (sym h.is) all
