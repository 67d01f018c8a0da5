use Rattle.std.proofs.Common.{length}
use Rattle.editing.specs.Content.{document_measure}
use Rattle.document.specs.Content.{model_of, Keeps}
use Rattle.document.specs.Records.{CarriedInText}
use Rattle.document.proofs.Scripting.{Onward, AllSteps, Stepped}
use Rattle.document.proofs.document.script.Document+Readings+X.try_script.Given as goal

-- What the records still to come make of what is there now is what all of them make of what was there first.
abbrev pub invariant-loop-index : goal.invariant-loop-index
invariant-loop-index g l =
    let a = g.G.Grammar.meaning l.meter.first.grammar in
    let μ = document_measure a (g.H.Meter.scale l.meter.second.second) in
    Onward (length l.initial.screen) l.text l.records l.index-counter (model_of l.initial.self) (model_of l.self)
    × AllSteps (CarriedInText a l.text) l.records l.index-counter l.initial.self l.initial.screen l.self l.screen
    × (Keeps l.initial.self μ → Stepped a μ l.text l.records l.index-counter l.initial.self l.initial.screen l.self l.screen)
