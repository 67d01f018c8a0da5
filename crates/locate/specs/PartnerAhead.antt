-- Going from an opening to its partner: the search keeps the state and the depth.
use Rattle.std.specs.Prelude.{ℕ, Some, None, Option}
use Rattle.automaton.specs.Automaton.{Automaton}
use Rattle.automaton.specs.Bracket.{role}
use Rattle.locate.specs.Depth.{depth_ahead}
use Rattle.locate.specs.declared.nested.Nested.{Nested}

abbrev pub nested : ℕ → ℕ → Nested
nested state depth = record { state = state; depth = depth }

abbrev pub nested_in : ℕ → Option ℕ → Option Nested
nested_in state None = None
nested_in state (Some depth) = Some (nested state depth)

abbrev pub ahead_on : Automaton → Nested → ℕ → Option Nested
ahead_on a w b = nested_in (a.step w.state b) (depth_ahead (role a w.state b) w.depth)
