use Rattle.std.proofs.Common.{◌∙◌, arith}
use Rattle.questions.proofs.Cutting.{range_left, range_right}
use Rattle.questions.proofs.subtree.Subtree.+narrowed.Goals as goal

pub returns-then-span-bytes-clause-bytes : goal.returns-then-span-bytes-clause-bytes
returns-then-span-bytes-clause-bytes g t c = c.narrowed.ensures.bytes ∙ range_left c.in-Some.ensures c.args.span (omega arith)

pub returns-then-span-bytes-clause-keeps : goal.returns-then-span-bytes-clause-keeps
returns-then-span-bytes-clause-keeps g t c μ k = c.narrowed.ensures.keeps μ (c.in-Some.ensures.left_keeps μ k)

pub returns-then-rest-bytes-clause-bytes : goal.returns-then-rest-bytes-clause-bytes
returns-then-rest-bytes-clause-bytes g t c =
    let apart = c.in-Some.ensures in
    c.narrowed-then-rest-bytes.ensures.bytes ∙ range_right apart c.args.span _ _ c.cut.ensures.own c.cut.ensures.rest apart.some_byte (omega arith)

pub returns-then-rest-bytes-clause-keeps : goal.returns-then-rest-bytes-clause-keeps
returns-then-rest-bytes-clause-keeps g t c μ k = c.narrowed-then-rest-bytes.ensures.keeps μ (c.in-Some.ensures.right_keeps μ k)
