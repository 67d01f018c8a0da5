use Rattle.std.proofs.Common.{arith}
use Rattle.chunks.proofs.Footprint.{first_below}
use Rattle.slots.proofs.Elsewhere.{elsewhere_stack, roomy_elsewhere}
use Rattle.slots.proofs.Stacking.{stored}
use Rattle.exchange.proofs.store.store_chunk.Goals as goal

pub write-requires-clause-usable : goal.write-requires-clause-usable
write-requires-clause-usable g c =
    let i = c.requires.idle.0 in
    let idle = c.requires.idle.1.1 in
    let took = c.take-i.ensures in
    let first = took.first i _ idle in
    let u = took.usable in
    let known = first_below c.args.memory.now.usable i _ idle.once in
    let roomy = roomy_elsewhere _ _ (λ j. 0) (elsewhere_stack _ _ (λ j. 0) took.slots took.store took.readings took.usable) idle.roomy in
    (roomy, omega arith)

pub returns : goal.returns
returns g c i is idle =
    let μ = g.M.Meter.scale c.args.meter.now in
    let took = c.take-i.ensures in
    let first = took.first i is idle in
    (first, stored μ idle _ first took.rest took.slots took.store took.readings took.usable _ c.measure-own.ensures _ c.write.ensures)
