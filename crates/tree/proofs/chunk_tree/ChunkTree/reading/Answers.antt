use Rattle.std.proofs.Common.{ap, ◌∙◌}
use Rattle.measure.specs.Measure.{reading as reading_of}
use Rattle.tree.proofs.chunk_tree.ChunkTree.reading.Goals as goal

pub returns : goal.returns
returns g c k =
    let μ = g.M.Meter.scale c.args.meter.now in
    c.reading.ensures (c.part.ensures.keeps μ k) ∙ ap (reading_of μ) c.part.ensures.bytes
