use Rattle.std.proofs.Common.{◌≡◌, ◌-◌, length, drop, None, sym, ap, ◌∙◌, arith}
use lib.Seq.{paste}
use Rattle.std.specs.List.{between}
use Rattle.std.proofs.lemmas.List.Edits.{length-between}
use Rattle.std.proofs.lemmas.Result.{IfOk-at_ok}
use Rattle.automaton.specs.Walk.{colours_from, colours}
use Rattle.automaton.proofs.Walk.{colours_length}
use Rattle.model.specs.Calls.{answered, fits}
use Rattle.model.specs.Paint.{length_before}
use Rattle.editing.specs.Content.{text_in, model_in}
use Rattle.editing.proofs.Showing.{range_passes, repainted_with, fits_parts}
use Rattle.editing.proofs.screen.paint_change.Goals as goal

pub returns-clause-anyway : goal.returns-clause-anyway
returns-clause-anyway g c =
    let a = g.G.Grammar.meaning c.args.meter.now.first.grammar in
    let text = text_in c.args.tree.now in
    let change = c.args.change in
    let screen = c.args.screen.now in
    let all : c.bytes-bytes.result ≡ length text = c.bytes-bytes.ensures.is in
    let parts = fits_parts change (length text) (ap (fits change) (sym all) ∙ sym c.fits.ensures ∙ c.if-not-fits.false) in
    let moved = c.move_cells.new.cells in
    let room : length (between change.place change.end moved) ≡ change.end - change.place = length-between moved change.place change.end (omega (arith, c.move_cells.ensures.len)) in
    let passes = range_passes (model_in c.args.tree.now None) change.place change.end (length (between change.place change.end moved)) (omega arith) parts.1 (omega arith) in
    let some = IfOk-at_ok _ (c.copy_colours.ensures.answer ∙ ap (λ o. answered o tt) passes) c.copy_colours.ensures.anyway in
    let bytes = between change.place change.end text in
    record {
      state = some.state;
      is = repainted_with (length text) screen moved c.copy_colours.new.out (colours_from a some.state bytes) change parts.0 parts.1 (omega arith) (omega arith)
          (c.move_cells.ensures.after ∙ ap (λ n. paste screen change.end (drop (length_before change change.end) screen) (length_before change n - length_before change change.end)) all)
          c.move_cells.ensures.len some.is (colours_length a some.state bytes ∙ length-between text change.place change.end parts.1);
    }

pub returns-clause-painted : goal.returns-clause-painted
returns-clause-painted g c kept =
    let a = g.G.Grammar.meaning c.args.meter.now.first.grammar in
    let text = text_in c.args.tree.now in
    let change = c.args.change in
    let screen = c.args.screen.now in
    let all : c.bytes-bytes.result ≡ length text = c.bytes-bytes.ensures.is in
    let parts = fits_parts change (length text) (ap (fits change) (sym all) ∙ sym c.fits.ensures ∙ c.if-not-fits.false) in
    let moved = c.move_cells.new.cells in
    let room : length (between change.place change.end moved) ≡ change.end - change.place = length-between moved change.place change.end (omega (arith, c.move_cells.ensures.len)) in
    let passes = range_passes (model_in c.args.tree.now None) change.place change.end (length (between change.place change.end moved)) (omega arith) parts.1 (omega arith) in
    let written = IfOk-at_ok _ (c.copy_colours.ensures.answer ∙ ap (λ o. answered o tt) passes) c.copy_colours.ensures.written kept in
    repainted_with (length text) screen moved c.copy_colours.new.out (between change.place change.end (colours a text)) change parts.0 parts.1 (omega arith) (omega arith)
    (c.move_cells.ensures.after ∙ ap (λ n. paste screen change.end (drop (length_before change change.end) screen) (length_before change n - length_before change change.end)) all)
    c.move_cells.ensures.len written (length-between (colours a text) change.place change.end (omega (arith, parts.1, colours_length a 0 text)))
