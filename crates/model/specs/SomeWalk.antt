-- What is coloured where readings may tell any state before a place: the cells have the colours of a walk begun in some state.
use Rattle.std.specs.Prelude.{◌≡◌, ℕ, List, length}
use Rattle.std.specs.List.{between}
use Rattle.automaton.specs.Automaton.{Automaton}
use Rattle.automaton.specs.Walk.{colours_from}
use Rattle.model.specs.declared.change.Change.{Change}
use Rattle.model.specs.Calls.{with_front}
use Rattle.model.specs.Paint.{repainted}

-- What was left is what the colours of the bytes make, read from some state on.
pub record BySomeWalk (a : Automaton) (bytes : List ℕ) (made : List ℕ → List ℕ) (left : List ℕ) : Type 0 where
  pub state : ℕ
  pub is : left ≡ made (colours_from a state bytes)

-- A buffer with the colours of a range at its front; the rest stays.
abbrev pub FrontColoured : Automaton → List ℕ → ℕ → ℕ → List ℕ → List ℕ → Type 0
FrontColoured a text from to before after = BySomeWalk a (between from to text) (λ cells. with_front cells before) after

-- A screen on which a change is painted.
abbrev pub ChangeColoured : Automaton → List ℕ → Change → List ℕ → List ℕ → Type 0
ChangeColoured a text c before after = BySomeWalk a (between c.place c.end text) (λ cells. repainted cells c (length text) before) after
