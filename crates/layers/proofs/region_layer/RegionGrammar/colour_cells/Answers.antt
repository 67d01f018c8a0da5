use Rattle.std.proofs.Common.{◌≤◌, ◌∙◌, sym, subst, get_or, arith}
use Rattle.std.proofs.lemmas.Bool.Decides.{nat_tests}
use Rattle.automaton.specs.Region.{region, region_count, region_number}
use Rattle.automaton.proofs.Region.{Fits, region_lawful, region_goes_on, region_number_few, region_reads}
use Rattle.automaton.proofs.Walk.{walk_outside, colours_outside, cell_coloured}
use Rattle.layers.proofs.region_layer.RegionGrammar.colour_cells.Goals as goal

pub returns-in_default-clause-behind : goal.returns-in_default-clause-behind
returns-in_default-clause-behind g c =
    let below = g.G.Grammar.meaning c.args.self.now.below in
    let inner = g.H.Grammar.meaning c.args.self.now.inner in
    let lawful = region_lawful below inner (g.G.Grammar.lawful c.args.self.now.below) (g.H.Grammar.lawful c.args.self.now.inner) in
    let none = c.in_default.ensures in
    let out : region_count below inner ≤ c.args.state = grind (arith, nat_tests) in
    sym (walk_outside (region below inner) lawful c.args.state c.args.cells.now out)

pub returns-in_default-clause-coloured : goal.returns-in_default-clause-coloured
returns-in_default-clause-coloured g c =
    let below = g.G.Grammar.meaning c.args.self.now.below in
    let inner = g.H.Grammar.meaning c.args.self.now.inner in
    let lawful = region_lawful below inner (g.G.Grammar.lawful c.args.self.now.below) (g.H.Grammar.lawful c.args.self.now.inner) in
    let none = c.in_default.ensures in
    let out : region_count below inner ≤ c.args.state = grind (arith, nat_tests) in
    c.fill.ensures.after (λ y e. e) ∙ sym (colours_outside (region below inner) lawful c.args.state c.args.cells.now out)

-- One cell more is coloured as its state says, and the state behind it is one of the layer's.
pub loop-cell-preserved : goal.loop-cell-preserved
loop-cell-preserved g c =
    let below = g.G.Grammar.meaning c.args.self.now.below in
    let inner = g.H.Grammar.meaning c.args.self.now.inner in
    let at = c.loop-cell.at in
    let cells = c.loop-cell.cells in
    let i = c.loop-cell.cell-index in
    let kept = c.loop-cell.invariant in
    let byte = get_or cells i 0 in
    let read = c.read_at-class.ensures in
    let on = region_goes_on below inner (g.G.Grammar.lawful c.args.self.now.below) (g.H.Grammar.lawful c.args.self.now.inner) at byte kept.0 kept.1 in
    let reads = region_reads below inner at byte kept.0 kept.1 in
    let more = cell_coloured (region below inner) (region_number below inner at) (region_number below inner c.read_at-class.result.1) c.read_at-class.result.0 i cells (omega (arith, c.loop-cell-test.true, c.loop-cell.auto.cells)) (reads.0 ∙ (λ j. region_number below inner (sym read.behind j))) (reads.1 ∙ sym read.class) in
    (subst (Fits below inner) (sym read.behind) on, kept.1, more.0 ∙ kept.2, more.1 ∙ kept.3)

pub number_of-requires : goal.number_of-requires
number_of-requires g c =
    let below = g.G.Grammar.meaning c.args.self.now.below in
    let inner = g.H.Grammar.meaning c.args.self.now.inner in
    let kept = c.loop-cell.invariant in
    region_number_few below inner c.loop-cell.at kept.0 kept.1
