use Rattle.std.proofs.Common.{◌≡◌, ◌+◌, ◌-◌, length, min, ap, ◌∙◌, arith}
use Rattle.std.specs.List.{between}
use Rattle.measure.specs.Place.{line_ends}
use Rattle.editing.specs.Content.{text_in}
use Rattle.editing.proofs.LinesBetween.{ends_few, between_few, block_counted, to_end}
use Rattle.editing.proofs.lines.line_ends_between.Goals as goal

pub overflow_cast-count : goal.overflow_cast-count
overflow_cast-count g c = omega (arith, c.line_ends_of.ensures, ends_few c.copy.new.out (c.min-next.result - c.loop-at.at))

pub overflow_add-count : goal.overflow_add-count
overflow_add-count g c =
    omega (arith, c.line_ends_of.ensures, ends_few c.copy.new.out (c.min-next.result - c.loop-at.at), c.loop-at.invariant.counted, between_few (text_in c.args.tree.now) c.args.from (min c.loop-at.at c.min-end.result), c.bytes.ensures.is)

pub loop-at-preserved : goal.loop-at-preserved
loop-at-preserved g c =
    let behind : c.min-next.result ≡ min (c.loop-at.at + 64) c.min-end.result = omega (arith, c.min-next.ensures) in
    record {
      forward = omega arith;
      counted = block_counted c.args.tree.now c.args.from c.loop-at.at c.min-end.result c.min-next.result c.loop-at.block c.copy.new.out _ c.loop-at.count c.line_ends_of.result c.copy.ensures.done c.copy.ensures.copied c.loop-at.invariant.forward (omega arith) (omega (arith, c.bytes.ensures.is, c.min-end.ensures)) (omega (arith, c.min-next.ensures)) (omega (arith, c.min-next.array_long)) c.loop-at.invariant.counted c.line_ends_of.ensures
          ∙ ap (λ n. line_ends (between c.args.from n (text_in c.args.tree.now))) behind;
    }

-- Behind the last block, and where there is none.
pub returns-2 : goal.returns-2
returns-2 g c =
    let text = text_in c.args.tree.now in
    let behind : c.min-next.result ≡ min c.args.to (length text) = omega (arith, c.min-next.ensures, c.min-end.ensures, c.bytes.ensures.is) in
    block_counted c.args.tree.now c.args.from c.loop-at.at c.min-end.result c.min-next.result c.loop-at.block c.copy.new.out _ c.loop-at.count c.line_ends_of.result c.copy.ensures.done c.copy.ensures.copied c.loop-at.invariant.forward (omega arith) (omega (arith, c.bytes.ensures.is, c.min-end.ensures)) (omega (arith, c.min-next.ensures)) (omega (arith, c.min-next.array_long)) c.loop-at.invariant.counted c.line_ends_of.ensures
    ∙ ap (λ n. line_ends (between c.args.from n text)) behind
    ∙ to_end text c.args.from c.args.to
