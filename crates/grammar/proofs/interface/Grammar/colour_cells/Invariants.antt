use Rattle.std.proofs.Common.{◌≡◌, ◌++◌, take, drop}
use Rattle.automaton.specs.Walk.{walk, colours_from}
use Rattle.grammar.proofs.interface.Grammar.colour_cells.Given as goal

-- The cells so far are coloured, and what is left of them leads on from here.
abbrev pub invariant-loop-cell : goal.invariant-loop-cell
invariant-loop-cell g l =
    let a = g.Self.Grammar.meaning l.self in
    (walk a l.now_in (drop l.cell-index l.cells) ≡ walk a l.state l.initial.cells) × (take l.cell-index l.cells ++ colours_from a l.now_in (drop l.cell-index l.cells) ≡ colours_from a l.state l.initial.cells)
