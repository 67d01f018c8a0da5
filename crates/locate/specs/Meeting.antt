-- Two walks side by side: the search goes on as long as their states differ.
use Rattle.std.specs.Prelude.{ℕ, cond, Some, None, Option, ◌==◌}
use Rattle.automaton.specs.Automaton.{Automaton}
use Rattle.locate.specs.declared.two_states.TwoStates.{TwoStates}

abbrev pub two_states : ℕ → ℕ → TwoStates
two_states old new = record { old = old; new = new }

abbrev pub meet_on : Automaton → TwoStates → ℕ → Option TwoStates
meet_on a w b = cond (w.old == w.new) None (Some (two_states (a.step w.old b) (a.step w.new b)))
