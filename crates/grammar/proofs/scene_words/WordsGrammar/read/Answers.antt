use Rattle.std.proofs.Common.{ap}
use Rattle.grammar.specs.declared.step.Step.{Step}
use Rattle.grammar.proofs.WordSteps.{entry}
use Rattle.grammar.proofs.scene_words.WordsGrammar.read.Goals as goal

pub returns-in-Some-clause-class : goal.returns-in-Some-clause-class
returns-in-Some-clause-class c =
    let found = c.in-Some.ensures.lookup in
    ap (λ (x : Step). x.class) (entry c.args.byte c.args.state c.steps_of.result.now c.in-Some.step.now c.steps_of.ensures found.3.0 found.1)

pub returns-in-Some-clause-behind : goal.returns-in-Some-clause-behind
returns-in-Some-clause-behind c =
    let found = c.in-Some.ensures.lookup in
    ap (λ (x : Step). x.behind) (entry c.args.byte c.args.state c.steps_of.result.now c.in-Some.step.now c.steps_of.ensures found.3.0 found.1)
