use Rattle.std.proofs.Common.{◌++◌, length, take, drop, map, sym, ap, ◌∙◌, arith}
use Rattle.std.proofs.lemmas.List.{length-append, append_assoc}
use Rattle.std.specs.Slice.Iter.{chunks_rest}
use Rattle.measure.specs.Walk.{led_on}
use Rattle.measure.proofs.Walk.{rows_led_on}
use Rattle.walks.proofs.walk_meter.Walk.walk_rows.Goals as goal

pub loop-stretch-preserved : goal.loop-stretch-preserved
loop-stretch-preserved g c =
    let a = g.G.Grammar.meaning c.args.self.now.grammar in
    let n = c.count-count.result in
    let loop = c.loop-stretch.invariant in
    let next = c.in-Some.ensures.steps in
    let read = loop.so_far.0 in
    let stretch = c.in-Some.stretch.now in
    let rest = chunks_rest c.next.new.self in
    let cut_off = next.1.0 in
    let whole = loop.so_far.1.0 in
    let all = append_assoc read stretch rest ∙ ap (λ l. read ++ l) (sym cut_off) ∙ whole in
    let short = ap length whole in
    let total = length-append read (chunks_rest c.loop-stretch.stretch-iterator) in
    let piece = ap length cut_off ∙ length-append stretch rest in
    record {
      strides = next.0 ∙ loop.strides;
      so_far = (
        read ++ stretch,
        (
          all,
          ap (λ l. l ++ drop n c.loop-stretch.entries) c.lead_on.ensures
              ∙ ap (λ l. map (led_on a stretch) (take n l) ++ drop n l) loop.so_far.1.1
              ∙ rows_led_on a (g.G.Grammar.lawful c.args.self.now.grammar) n read stretch c.count-count.ensures (omega (arith, c.requires)),
        ),
      );
    }
