use Rattle.std.proofs.Common.{◌≡◌, ℕ, suc, ◌+◌, ◌-◌, ◌/◌, List, ◌∷◌, ◌++◌, sym, refl, subst, arith}
use Rattle.chunks.specs.Tree.{leaf}
use Rattle.chunks.specs.Cut.{part}
use Rattle.slots.specs.Free.{Built}
use Rattle.slots.proofs.Building.{built_none, second_idle, third_idle, built_ready, built_joined, parts_joined}
use Rattle.exchange.proofs.build.+build.Goals as goal

pub returns-then-n-eq0 : goal.returns-then-n-eq0
returns-then-n-eq0 g t c is idle enough =
    let μ = g.M.Meter.scale c.args.meter.now in
    let P : ℕ → Type 0 = λ n. Built μ c.args.memory.now is n (part c.args.cut.now.bytes.now c.args.cut.now.count c.args.k n) c.args.memory.now leaf in
    (leaf, (refl, subst P (sym c.if-n-eq0.true) (built_none idle)))

pub store_chunk-i-requires-clause-idle : goal.store_chunk-i-requires-clause-idle
store_chunk-i-requires-clause-idle g t c =
    let sum : c.args.n ≡ c.args.n / 2 + suc (c.args.n - c.args.n / 2 - 1) = omega arith in
    let p = c.requires.idle.1 in
    let left = c.build-left.ensures _ p.0 (omega (arith, p.1)) in
    (_, (_, second_idle p.0 p.1 _ _ sum left.1.1))

pub build-right-requires : goal.build-right-requires
build-right-requires g t c κs within =
    let sum : c.args.n ≡ c.args.n / 2 + suc (c.args.n - c.args.n / 2 - 1) = omega arith in
    let p = c.requires.idle.1 in
    let left = c.build-left.ensures _ p.0 (omega (arith, p.1)) in
    let own = c.store_chunk-i.ensures _ _ (second_idle p.0 p.1 _ _ sum left.1.1) in
    let third = third_idle p.0 p.1 _ _ sum left.1.1 c.chunk.ensures.fits own.1 in
    let measured = c.decreases in
    let bound = c.requires.within in
    (omega arith, (within.0, (within.1, ((_, third), omega arith))))

pub join-requires : goal.join-requires
join-requires g t c =
    let sum : c.args.n ≡ c.args.n / 2 + suc (c.args.n - c.args.n / 2 - 1) = omega arith in
    let p = c.requires.idle.1 in
    let left = c.build-left.ensures _ p.0 (omega (arith, p.1)) in
    let own = c.store_chunk-i.ensures _ _ (second_idle p.0 p.1 _ _ sum left.1.1) in
    let third = third_idle p.0 p.1 _ _ sum left.1.1 c.chunk.ensures.fits own.1 in
    let right = c.build-right.ensures _ third.0 third.1 in
    (left.0, (right.0, built_ready p.0 p.1 _ _ sum left.1.1 c.chunk.ensures.fits own.1 right.1.1 own.0 left.1.0 right.1.0))

pub returns : goal.returns
returns g t c is idle room =
    let μ = g.M.Meter.scale c.args.meter.now in
    let q = c.args.cut.now.count in
    let k = c.args.k in
    let h = c.args.n / 2 in
    let r = c.args.n - h - 1 in
    let sum : c.args.n ≡ h + suc r = omega arith in
    let left = c.build-left.ensures is idle (omega arith) in
    let own = c.store_chunk-i.ensures _ _ (second_idle idle room _ _ sum left.1.1) in
    let third = third_idle idle room _ _ sum left.1.1 c.chunk.ensures.fits own.1 in
    let right = c.build-right.ensures _ third.0 third.1 in
    let done = c.join.ensures left.0 right.0 (built_ready idle room _ _ sum left.1.1 c.chunk.ensures.fits own.1 right.1.1 own.0 left.1.0 right.1.0) in
    let built = built_joined idle room _ _ sum left.1.1 c.chunk.ensures.fits own.1 right.1.1 own.0 done.1.1 in
    let bytes = c.args.cut.now.bytes.now in
    let chunks = parts_joined bytes q k h r c.args.n c.chunk.result.now c.chunk.ensures.bytes sum in
    let P : ℕ → List (List ℕ) → Type 0 = λ n cs. Built μ c.args.memory.now is n cs c.join.new.memory done.0 in
    (done.0, (done.1.0, subst (P c.args.n) chunks (subst (λ n. P n (part bytes q k h ++ (c.chunk.result.now ∷ part bytes q (k + h + 1) r))) (sym sum) built)))
