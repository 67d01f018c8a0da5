use Rattle.slots.proofs.Rangewise.{reading_three}
use Rattle.questions.specs.Spans.{within}
use Rattle.questions.specs.Under.{text_under}
use Rattle.questions.proofs.Cutting.{range_parts}
use Rattle.questions.proofs.subtree.Subtree.+reading.Goals as goal

pub returns-2 : goal.returns-2
returns-2 g t c k =
    let μ = g.M.Meter.scale c.args.meter.now in
    let lawful = g.M.Meter.lawful c.args.meter.now in
    let apart = c.in-Some-parts.ensures in
    let p = c.in-Some-parts.parts in
    let left = c.reading-first.ensures (apart.left_keeps μ k) in
    let own = c.chunk_reading-middle.ensures (apart.own_kept μ k) in
    let right = c.reading-last.ensures (apart.right_keeps μ k) in
    rw (c.join.ensures, c.join-front.ensures, left, own, right, range_parts apart c.args.span _ _ c.cut.ensures.own c.cut.ensures.rest)
    (reading_three μ lawful (within c.args.span (text_under p.left)) (within c.cut.result.0 p.chunk.now) (within c.cut.result.1 (text_under p.right)))
