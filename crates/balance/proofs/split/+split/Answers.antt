use Rattle.std.proofs.Common.{sym, ap, subst, arith}
use Rattle.chunks.specs.Tree.{Tree}
use Rattle.slots.specs.declared.slot.Extent.{Extent}
use Rattle.slots.specs.Split.{Halved}
use Rattle.slots.proofs.Splitting.{halves, left_ready, left_halved, right_ready, right_halved}
use Rattle.balance.proofs.split.+split.Goals as goal

pub extent-before-requires : goal.extent-before-requires
extent-before-requires g t c =
    let h = halves c.in-Some.is c.requires.1 c.child-left.ensures c.child-right.ensures in
    (h.top.roomy, (h.l, (h.left_held.root_is, h.left_held.holds)))

pub split-first-requires : goal.split-first-requires
split-first-requires g t c κs within =
    let h = halves c.in-Some.is c.requires.1 c.child-left.ensures c.child-right.ensures in
    let measured = c.decreases in
    (omega (arith, h.left_lower), (within.0, (within.1, (h.l, h.left_held))))

pub join-joined-requires : goal.join-joined-requires
join-joined-requires g t c =
    let h = halves c.in-Some.is c.requires.1 c.child-left.ensures c.child-right.ensures in
    let count = ap (λ (x : Extent). x.chunks) (c.extent-before.ensures _ h.left_held.root_is h.left_held.holds) in
    let made = c.split-first.ensures _ h.left_held in
    (made.1.0, (h.r, left_ready h.top c.args.at _ count (omega arith) made.1.1.1.1 _ _ made.1.1.1.0 h.right_held.root_is))

pub split-first-requires-else-at-before : goal.split-first-requires-else-at-before
split-first-requires-else-at-before g t c κs within =
    let h = halves c.in-Some.is c.requires.1 c.child-left.ensures c.child-right.ensures in
    let measured = c.decreases in
    (omega (arith, h.right_lower), (within.0, (within.1, (h.r, h.right_held))))

pub join-joined-requires-else-at-before : goal.join-joined-requires-else-at-before
join-joined-requires-else-at-before g t c =
    let h = halves c.in-Some.is c.requires.1 c.child-left.ensures c.child-right.ensures in
    let count = ap (λ (x : Extent). x.chunks) (c.extent-before.ensures _ h.left_held.root_is h.left_held.holds) in
    let made = c.split-first-else-at-before.ensures _ h.right_held in
    (h.l, (made.0, right_ready h.top c.args.at _ count (omega arith) made.1.1.1.1 _ _ h.left_held.root_is made.1.1.0))

pub returns-then-at-before : goal.returns-then-at-before
returns-then-at-before g t c tree held =
    let μ = g.M.Meter.scale c.args.meter.now in
    let h = halves c.in-Some.is held c.child-left.ensures c.child-right.ensures in
    let count = ap (λ (x : Extent). x.chunks) (c.extent-before.ensures _ h.left_held.root_is h.left_held.holds) in
    let made = c.split-first.ensures _ h.left_held in
    let cut = made.1.1.1.1 in
    let done = c.join-joined.ensures made.1.0 h.r (left_ready h.top c.args.at _ count (omega arith) cut _ _ made.1.1.1.0 h.right_held.root_is) in
    let whole = left_halved h.top c.args.at _ count (omega arith) cut done.1.1 in
    (made.0, (done.0, (made.1.1.0, (done.1.0, subst (λ (z : Tree). Halved μ c.args.memory.now z c.args.at c.join-joined.new.memory made.0 done.0) (sym h.is) whole))))

pub returns-else-at-before : goal.returns-else-at-before
returns-else-at-before g t c tree held =
    let μ = g.M.Meter.scale c.args.meter.now in
    let h = halves c.in-Some.is held c.child-left.ensures c.child-right.ensures in
    let count = ap (λ (x : Extent). x.chunks) (c.extent-before.ensures _ h.left_held.root_is h.left_held.holds) in
    let made = c.split-first-else-at-before.ensures _ h.right_held in
    let cut = made.1.1.1.1 in
    let done = c.join-joined-else-at-before.ensures h.l made.0 (right_ready h.top c.args.at _ count (omega arith) cut _ _ h.left_held.root_is made.1.1.0) in
    let whole = right_halved h.top c.args.at _ count (omega arith) cut done.1.1 in
    (done.0, (made.1.0, (done.1.0, (made.1.1.1.0, subst (λ (z : Tree). Halved μ c.args.memory.now z c.args.at c.join-joined-else-at-before.new.memory done.0 made.1.0) (sym h.is) whole))))
