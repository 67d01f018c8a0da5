use Rattle.std.proofs.Common.{◌∙◌, sym, ap, arith}
use Rattle.editing.proofs.LinesBetween.{counted, one_byte_more, ends_few}
use Rattle.editing.proofs.lines.line_ends_of.Goals as goal
use Rattle.editing.proofs.lines.line_ends_of.Goals.{then-ends_line, else-ends_line}

pub overflow_add-count : goal.overflow_add-count
overflow_add-count c = omega (arith, ends_few c.args.bytes.now c.loop-byte.byte-index)

pub loop-byte-preserved : goal.loop-byte-preserved
loop-byte-preserved c =
    let more = one_byte_more c.args.bytes.now c.loop-byte.byte-index c.loop-byte-test.true in
    elim c.if-ends_line.branch [
      | then-ends_line w ↦ let one = ap counted (sym c.ends_line.ensures ∙ w.if-ends_line.true) in omega (arith, more, one)
      | else-ends_line w ↦ let none = ap counted (sym c.ends_line.ensures ∙ w.if-ends_line.false) in omega (arith, more, none)
    ]
