use Rattle.std.proofs.Common.{◌≡◌, suc, Some, sym, ap, ◌∙◌, subst, arith}
use Rattle.chunks.specs.Tree.{Tree, height}
use Rattle.chunks.specs.Sides.{around}
use Rattle.chunks.proofs.Sides.{root_around}
use Rattle.slots.specs.Holds.{Ready}
use Rattle.slots.specs.Join.{Joined, Leaning}
use Rattle.slots.proofs.Rotating.{Seen, seen, leaning, steeply}
use Rattle.balance.proofs.join.rotate.Given as given
use Rattle.balance.proofs.join.rotate.Goals as goal
use Rattle.balance.proofs.join.rotate.Goals.{After-child-inner}

-- The two sides of the slot `tall`, and that its tree leans.
leans : (g : given.Over) (c : goal.After-child-inner g) (a b : Tree) → Ready c.args.memory.now (Some c.args.tall) a c.args.i c.args.short b → height a ≡ suc (suc (height b)) →
    (v : Seen c.args.memory.now c.args.side c.child-outer.result c.child-inner.result c.args.tall a) × Leaning c.args.memory.now c.args.side c.child-outer.result v.o c.args.tall c.child-inner.result v.n c.args.i c.args.short b
leans g c a b ready two =
    let v = seen c.other.ensures c.child-outer.ensures c.child-inner.ensures _ ready.near_root ready.near_holds in
    (v, leaning ready two v.is v.outer_root v.inner_root)

pub top_if_higher-requires : goal.top_if_higher-requires
top_if_higher-requires g c =
    let ready = c.requires.1.1.0 in
    let v = (leans g c _ _ ready c.requires.1.1.1).0 in
    record { roomy = ready.roomy; tree = (v.n, (v.inner_root, v.far)); than = (v.o, (v.outer_root, v.near)) }

pub rotate_twice-requires : goal.rotate_twice-requires
rotate_twice-requires g c =
    let p = leans g (goal.at.rotate_twice-requires g c).After-child-inner _ _ c.requires.1.1.0 c.requires.1.1.1 in
    let v = p.0 in
    let higher = c.in-Some.ensures v.n v.o v.inner_root v.outer_root v.far v.near in
    let q = steeply p.1 _ higher.0 (omega (arith, higher.1)) in
    (v.o, (q.0, (q.1.0, (c.requires.1.0, q.1.1.1))))

pub rotate_once-requires : goal.rotate_once-requires
rotate_once-requires g c =
    let p = leans g (goal.at.rotate_once-requires g c).After-child-inner _ _ c.requires.1.1.0 c.requires.1.1.1 in
    let v = p.0 in
    let flat = c.in-None.ensures v.n v.o v.inner_root v.outer_root v.far v.near in
    (v.o, (v.n, (c.requires.1.0, (p.1, omega (arith, flat)))))

pub returns-in-Some : goal.returns-in-Some
returns-in-Some g c a b ready two =
    let μ = g.M.Meter.scale c.args.meter.now in
    let s = c.args.side in
    let i = c.args.i in
    let p = leans g (goal.at.returns-in-Some g c).After-child-inner a b ready two in
    let v = p.0 in
    let higher = c.in-Some.ensures v.n v.o v.inner_root v.outer_root v.far v.near in
    let q = steeply p.1 _ higher.0 (omega (arith, higher.1)) in
    let whole = v.is ∙ ap (around s v.o c.args.tall) q.1.1.0 in
    let t = around s (around s v.o c.args.tall q.0) c.in-Some.j (around s q.1.0 i b) in
    (t, (sym (root_around s _ _ _), subst (λ (z : Tree). Joined μ s c.args.memory.now z i b c.rotate_twice.new.memory t) (sym whole) (c.rotate_twice.ensures v.o q.0 q.1.0 b q.1.1.1.0 q.1.1.1.1)))

pub returns-in-None : goal.returns-in-None
returns-in-None g c a b ready two =
    let μ = g.M.Meter.scale c.args.meter.now in
    let s = c.args.side in
    let i = c.args.i in
    let p = leans g (goal.at.returns-in-None g c).After-child-inner a b ready two in
    let v = p.0 in
    let flat = c.in-None.ensures v.n v.o v.inner_root v.outer_root v.far v.near in
    let t = around s v.o c.args.tall (around s v.n i b) in
    (t, (sym (root_around s _ _ _), subst (λ (z : Tree). Joined μ s c.args.memory.now z i b c.rotate_once.new.memory t) (sym v.is) (c.rotate_once.ensures v.o v.n b p.1 (omega (arith, flat)))))
