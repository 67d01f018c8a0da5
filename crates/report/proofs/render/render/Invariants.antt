use Rattle.std.proofs.Common.{◌≡◌, ◌++◌, vec_items}
use Rattle.report.specs.Rendered.{rendered, rendered_from}
use Rattle.report.proofs.render.render.Given as goal

-- What is written and what is left to write make the whole.
abbrev pub invariant-loop-byte : goal.invariant-loop-byte
invariant-loop-byte l = vec_items l.out ++ rendered_from l.view l.last l.byte-iterator.a.rest.now l.byte-iterator.b.rest.now ≡ rendered l.view l.text l.cells
