use Rattle.std.proofs.Common.{sym, subst}
use Rattle.chunks.specs.declared.side.Side.{Side}
use Rattle.slots.specs.Join.{Linked}
use Rattle.slots.proofs.Turning.{ready_turned, linked_turned, level_turned}
use Rattle.balance.proofs.join.link_around.Goals as goal

pub link-requires-in-Right : goal.link-requires-in-Right
link-requires-in-Right g c =
    let p = c.requires.1.1 in
    (c.requires.1.0, (c.requires.0, (ready_turned p.0, level_turned p.1)))

pub returns-in-Right : goal.returns-in-Right
returns-in-Right g c a b ready level =
    let μ = g.M.Meter.scale c.args.meter.now in
    subst (λ (s : Side). Linked μ s c.args.memory.now a c.args.i b c.link-in-Right.new.memory) (sym c.in-Right.is)
    (linked_turned (c.link-in-Right.ensures b a (ready_turned ready) (level_turned level)))
