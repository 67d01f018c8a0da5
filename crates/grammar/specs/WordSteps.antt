-- What scene words makes of a byte, from each of its states in turn.
use Rattle.std.specs.Prelude.{ℕ, List, map}
use Rattle.std.specs.List.{range_with_len}
use Rattle.automaton.specs.Words.{words}
use Rattle.grammar.specs.declared.step.Step.{Step}

abbrev pub word_steps : ℕ → List Step
word_steps b = map (λ s. record { class = words.class s b; behind = words.step s b }) (range_with_len 0 words.count)
