use Rattle.std.proofs.Common.{length, None, sym, ◌∙◌}
use Rattle.editing.specs.Content.{text_in, model_in}
use Rattle.editing.proofs.Planning.{answered_ok}
use Rattle.editing.proofs.Showing.{range_passed, coloured_front, front_is}
use Rattle.editing.proofs.screen.copy_colours.Goals as goal

pub returns-clause-anyway : goal.returns-clause-anyway
returns-clause-anyway g c =
    let T = c.args.tree.now in
    let out = c.args.out.now in
    let told = c.in_ok-copy_text.ensures in
    let range = range_passed (model_in T None) c.args.from c.args.to (length out) (answered_ok _ tt _ (sym told.answer)).0 in
    record {
      state = c.state_before-state.result;
      is = coloured_front (g.G.Grammar.meaning c.args.meter.now.first.grammar) (text_in T) out c.copy_text.new.out c.colour_cells.new.cells c.args.from c.args.to c.state_before-state.result range.0 range.1 told.written c.colour_cells.ensures.coloured;
    }

pub returns-clause-written : goal.returns-clause-written
unfolding returns-clause-anyway
returns-clause-written g c kept =
    let a = g.G.Grammar.meaning c.args.meter.now.first.grammar in
    (returns-clause-anyway g c).is ∙ front_is a (text_in c.args.tree.now) c.args.out.now c.args.from c.args.to c.state_before-state.result (c.state_before-state.ensures kept)
