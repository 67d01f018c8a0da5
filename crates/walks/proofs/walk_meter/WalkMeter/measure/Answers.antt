use Rattle.std.proofs.Common.{sym, ap, ◌∙◌, arith, Some}
use Rattle.measure.specs.Walk.{passage}
use Rattle.measure.proofs.Bounded.{bounded_within, bounded_over}
use Rattle.measure.proofs.Walk.{walk_is, same_passage}
use Rattle.walks.proofs.walk_meter.WalkMeter.measure.Goals as goal

pub returns-then-bytes : goal.returns-then-bytes
returns-then-bytes g c =
    let a = g.G.Grammar.meaning c.args.self.now.grammar in
    let lawful = g.G.Grammar.lawful c.args.self.now.grammar in
    let bytes = c.args.bytes.now in
    sym (walk_is a lawful bytes ∙ bounded_over (passage a) bytes (omega arith))

pub returns : goal.returns
returns g c =
    let a = g.G.Grammar.meaning c.args.self.now.grammar in
    let lawful = g.G.Grammar.lawful c.args.self.now.grammar in
    let bytes = c.args.bytes.now in
    ap Some (same_passage (omega arith) c.walk_rows.ensures) ∙ sym (walk_is a lawful bytes ∙ bounded_within (passage a) bytes c.if-bytes.false)
