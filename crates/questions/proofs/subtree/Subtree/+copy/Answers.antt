use Rattle.std.proofs.Common.{length, ap, arith}
use Rattle.slots.specs.Copy.{Copied}
use Rattle.slots.proofs.Pasting.{copied_three, copied_length}
use Rattle.questions.specs.Spans.{within}
use Rattle.questions.specs.Under.{text_under}
use Rattle.questions.proofs.Cutting.{range_parts, range_long}
use Rattle.questions.proofs.subtree.Subtree.+copy.Goals as goal

pub copy_parts-copy-first-requires : goal.copy_parts-copy-first-requires
copy_parts-copy-first-requires g t c κs inside =
    let long = range_long c.in-Some.ensures c.args.span _ _ c.cut.ensures.own c.cut.ensures.rest in
    let lower = c.in-Some.ensures.left_lower in
    let measured = c.decreases in
    (omega arith, (inside, omega arith))

pub copy_parts-paste-middle-requires : goal.copy_parts-paste-middle-requires
copy_parts-paste-middle-requires g t c =
    let long = range_long c.in-Some.ensures c.args.span _ _ c.cut.ensures.own c.cut.ensures.rest in
    let xs = within c.args.span (text_under c.in-Some.parts.left) in
    let same = copied_length c.args.out.now xs c.args.at _ _ (omega arith) c.copy-first.ensures in
    let end = c.copy-first.ensures.end_is in
    omega (arith, ap length c.within.ensures)

pub copy_parts-copy-requires : goal.copy_parts-copy-requires
copy_parts-copy-requires g t c κs inside =
    let long = range_long c.in-Some.ensures c.args.span _ _ c.cut.ensures.own c.cut.ensures.rest in
    let lower = c.in-Some.ensures.right_lower in
    let measured = c.decreases in
    let xs = within c.args.span (text_under c.in-Some.parts.left) in
    let own = ap length c.within.ensures in
    let end = c.copy-first.ensures.end_is in
    let same = copied_length c.args.out.now xs c.args.at _ _ (omega arith) c.copy-first.ensures in
    let end-own = c.paste-middle.ensures.end_is in
    let same-own = copied_length c.copy-first.new.out c.within.result.now c.copy-first.result _ _ (omega arith) c.paste-middle.ensures in
    (omega arith, (inside, omega arith))

pub copy_parts-returns : goal.copy_parts-returns
copy_parts-returns g t c =
    let long = range_long c.in-Some.ensures c.args.span _ _ c.cut.ensures.own c.cut.ensures.rest in
    let xs = within c.args.span (text_under c.in-Some.parts.left) in
    let own = within c.cut.result.0 c.in-Some.parts.chunk.now in
    let rest = within c.cut.result.1 (text_under c.in-Some.parts.right) in
    let pasted : Copied own c.copy-first.new.out c.copy-first.result c.paste-middle.new.out c.paste-middle.result = rw (← c.within.ensures) c.paste-middle.ensures in
    rw (range_parts c.in-Some.ensures c.args.span _ _ c.cut.ensures.own c.cut.ensures.rest)
    (copied_three c.args.out.now xs own rest c.args.at _ _ _ _ _ _ (omega arith) c.copy-first.ensures pasted c.copy.ensures)
