use Rattle.std.proofs.Common.{◌≡◌, ◌++◌, ◌<◌, take, drop}
use Rattle.automaton.specs.Region.{region, region_count, region_number}
use Rattle.automaton.specs.Walk.{walk, colours_from}
use Rattle.automaton.proofs.Region.{Fits}
use Rattle.layers.proofs.region_layer.RegionGrammar.colour_cells.Given as goal

-- The cells so far are coloured, and what is left of them leads on from here.
abbrev pub invariant-loop-cell : goal.invariant-loop-cell
invariant-loop-cell g l =
    let below = g.G.Grammar.meaning l.self.below in
    let inner = g.H.Grammar.meaning l.self.inner in
    let a = region below inner in
    let s = region_number below inner l.at in
    Fits below inner l.at × (0 < region_count below inner) × (walk a s (drop l.cell-index l.cells) ≡ walk a l.state l.initial.cells) × (take l.cell-index l.cells ++ colours_from a s (drop l.cell-index l.cells) ≡ colours_from a l.state l.initial.cells)
