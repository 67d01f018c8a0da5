use Rattle.std.proofs.Common.{◌≡◌, ◌+◌, ◌-◌, ◌*◌, ◌≤◌, length, take, drop, ap, arith, rules}
use Rattle.slots.specs.View.{size_of}
use Rattle.questions.proofs.own.chunk.Goals as goal

pub slice_bounds-result-end : goal.slice_bounds-result-end
slice_bounds-result-end g c =
    let m = c.args.memory.now in
    let room = c.requires.usable.0.store_each in
    let fits : 64 * c.args.i + c.size.result ≤ length m.store.now = omega (arith, c.requires.usable.1, c.requires.fits, c.size.ensures) in
    search rules

pub returns : goal.returns
returns g c =
    let m = c.args.memory.now in
    let i = c.args.i in
    let long : 64 * i + c.size.result - 64 * i ≡ size_of m i = omega (arith, c.size.ensures) in
    ap (λ n. take n (drop (64 * i) m.store.now)) long
