-- A text's walk through an automaton, and the colours that it gives.
-- A text is the list of its bytes; a place counts the bytes before it.
use Rattle.std.specs.Prelude.{ℕ, List, [], ◌∷◌, take}
use Rattle.automaton.specs.Automaton.{Automaton}

-- The state behind bytes that are read from state s on.
abbrev pub walk : Automaton → ℕ → List ℕ → ℕ
walk a s [] = s
walk a s (b ∷ bs) = walk a (a.step s b) bs

-- The colours of bytes that are read from state s on: each byte's class from the state before it.
abbrev pub colours_from : Automaton → ℕ → List ℕ → List ℕ
colours_from a s [] = []
colours_from a s (b ∷ bs) = a.class s b ∷ colours_from a (a.step s b) bs

-- The state before a place of a text: its walk begins in state 0 at place 0.
abbrev pub state_before : Automaton → List ℕ → ℕ → ℕ
state_before a text place = walk a 0 (take place text)

-- The colours of a text.
abbrev pub colours : Automaton → List ℕ → List ℕ
colours a text = colours_from a 0 text
