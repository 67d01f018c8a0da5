use Rattle.std.proofs.Common.{◌≡◌, ℕ, ◌≤◌, List, length, ap, subst, arith}
use Rattle.measure.specs.Measure.{Measure}
use Rattle.chunks.specs.Tree.{Tree, root}
use Rattle.chunks.specs.Cut.{needed, part}
use Rattle.slots.specs.declared.memory.Memory.{Memory}
use Rattle.slots.specs.Free.{Built}
use Rattle.slots.specs.Replace.{Parted}
use Rattle.slots.proofs.Replacing.{parted_idle, front_apart, back_apart, inserted_whole, filled}
use Rattle.exchange.proofs.replace.insert.Given as given
use Rattle.exchange.proofs.replace.insert.Goals as goal
use Rattle.exchange.proofs.replace.insert.Goals.{After-build-middle}

-- What is built of bytes as they are cut is built of the bytes.
built_of : {R : Type 0} (μ : Measure R) {m after : Memory R} {is : List ℕ} {bytes cut : List ℕ} {n : ℕ} {t : Tree} → cut ≡ bytes → n ≡ needed (length bytes) → Built μ m is n (part cut n 0 n) after t →
    Built μ m is (needed (length bytes)) (part bytes (needed (length bytes)) 0 (needed (length bytes))) after t
built_of μ {m} {after} {is} {bytes} {cut} {n} {t} same count built =
    let q = needed (length bytes) in
    subst (λ cs. Built μ m is q (part cs q 0 q) after t) same (subst (λ k. Built μ m is k (part cut k 0 k) after t) count built)

-- The tree that was built of the bytes.
middle : (g : given.Over) (c : goal.After-build-middle g) (a b : Tree) (is : List ℕ) → Parted c.args.memory.now c.args.first a c.args.rest b is → needed (length c.args.bytes.now) ≤ length is →
    (t : Tree) × ((c.build-middle.result ≡ root t) × Built (g.M.Meter.scale c.args.meter.now) c.args.memory.now is (needed (length c.args.bytes.now)) (part c.args.bytes.now (needed (length c.args.bytes.now)) 0 (needed (length c.args.bytes.now))) c.build-middle.new.memory t)
middle g c a b is parted enough =
    let μ = g.M.Meter.scale c.args.meter.now in
    let cut = c.of-cut.ensures in
    let made = c.build-middle.ensures is (parted_idle parted) (omega (arith, cut.count, ap (length {A = ℕ}) cut.bytes)) in
    (made.0, (made.1.0, built_of μ cut.bytes cut.count made.1.1))

pub build-middle-requires : goal.build-middle-requires
build-middle-requires g c =
    let p = c.requires.1.1.1 in
    let cut = c.of-cut.ensures in
    record { idle = (_, (parted_idle p.0, omega (arith, p.1, cut.count, ap (length {A = ℕ}) cut.bytes))); within = omega arith }

pub append-front-requires : goal.append-front-requires
append-front-requires g c =
    let p = c.requires.1.1.1 in
    let made = middle g (goal.at.append-front-requires g c).After-build-middle _ _ _ p.0 p.1 in
    (_, (made.0, front_apart p.0 c.args.bytes.now made.1.1 _ made.1.0))

pub append-requires : goal.append-requires
append-requires g c =
    let bytes = c.args.bytes.now in
    let p = c.requires.1.1.1 in
    let made = middle g (goal.at.append-requires g c).After-build-middle _ _ _ p.0 p.1 in
    let front = c.append-front.ensures _ made.0 (front_apart p.0 bytes made.1.1 _ made.1.0) in
    (front.0, (_, back_apart p.0 bytes made.1.1 front.1.1 _ front.1.0))

pub returns : goal.returns
returns g c a b is parted enough =
    let bytes = c.args.bytes.now in
    let made = middle g (goal.at.returns g c).After-build-middle a b is parted enough in
    let built = made.1.1 in
    let front = c.append-front.ensures a made.0 (front_apart parted bytes built _ made.1.0) in
    let done = c.append.ensures front.0 b (back_apart parted bytes built front.1.1 _ front.1.0) in
    (done.0, (_, (inserted_whole parted bytes built front.1.1 done.1.1 _ done.1.0, filled parted bytes built front.1.1 done.1.1)))
