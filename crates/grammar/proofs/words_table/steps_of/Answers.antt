use Rattle.std.proofs.Common.{[], arith}
use Rattle.std.proofs.lemmas.List.FromFn.{get_or-map-range_with_len}
use Rattle.grammar.specs.WordSteps.{word_steps}
use Rattle.grammar.proofs.words_table.steps_of.Goals as goal

-- The table has for each byte what the definition gives.
pub returns : goal.returns
returns c = get_or-map-range_with_len word_steps 0 256 c.args.byte c.args.byte [] (omega (arith, c.ranges.byte)) (omega arith)
