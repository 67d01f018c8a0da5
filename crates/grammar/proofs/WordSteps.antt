-- An entry of what scene words makes of a byte.
use Rattle.std.proofs.Common.{◌≡◌, ℕ, ◌<◌, List, length, get_or, ap, ◌∙◌, arith}
use Rattle.std.proofs.lemmas.List.FromFn.{get_or-map-range_with_len, length-map-range_with_len}
use Rattle.automaton.specs.Words.{words}
use Rattle.grammar.specs.declared.step.Step.{Step}
use Rattle.grammar.specs.WordSteps.{word_steps}

pub entry : (b s : ℕ) (steps : List Step) (x : Step) → steps ≡ word_steps b → s < length steps → x ≡ get_or steps s x → x ≡ record { class = words.class s b; behind = words.step s b }
entry b s steps x e h found =
    let f : ℕ → Step = λ t. record { class = words.class t b; behind = words.step t b } in
    let few : s < 3 = omega (arith, ap length e, length-map-range_with_len f 0 3) in
    found ∙ ap (λ l. get_or l s x) e ∙ get_or-map-range_with_len f 0 3 s s x few (omega arith)
