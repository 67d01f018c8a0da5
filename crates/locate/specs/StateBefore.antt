-- Walking to a place: the search counts down the bytes that are left to it, and keeps the state.
use Rattle.std.specs.Prelude.{◌≡◌, ℕ, ◌-◌, cond, List, take, Some, None, Option, ◌==◌}
use Rattle.automaton.specs.Automaton.{Automaton}
use Rattle.automaton.specs.Walk.{walk}
use Rattle.search.specs.Forwards.{stop}
use Rattle.locate.specs.declared.walked.Walked.{Walked}

abbrev pub walked : ℕ → ℕ → Walked
walked left state = record { left = left; state = state }

abbrev pub walk_on : Automaton → Walked → ℕ → Option Walked
walk_on a w b = cond (w.left == 0) None (Some (walked (w.left - 1) (a.step w.state b)))

-- What it has kept when it stops is the state before the place.
abbrev pub WalkComesToPlace : Type 0
WalkComesToPlace = (a : Automaton) (s place : ℕ) (text : List ℕ) → (stop (walk_on a) (walked place s) text).at.state ≡ walk a s (take place text)
