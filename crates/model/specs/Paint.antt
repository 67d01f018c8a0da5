-- What painting a change leaves on a screen that showed the text before the change.
-- The cells before the change stay; those up to its end get the colours; those behind it move along with their bytes.
use Rattle.std.specs.Prelude.{ℕ, ◌+◌, ◌-◌, List, ◌++◌, length, take, drop}
use Rattle.std.specs.List.{between}
use Rattle.automaton.specs.Automaton.{Automaton}
use Rattle.automaton.specs.Walk.{colours}
use Rattle.model.specs.declared.change.Change.{Change}

-- How long the text was before the change.
abbrev pub length_before : Change → ℕ → ℕ
length_before c n = n + c.removed - c.inserted

-- A screen behind a change of a text, now n bytes long, with the given cells for those from the change's place up to its end.
abbrev pub repainted : List ℕ → Change → ℕ → List ℕ → List ℕ
repainted cells c n screen =
    take c.place screen
    ++ (cells
    ++ (between (length_before c c.end) (length_before c n) screen
    ++ drop n screen))

abbrev pub painted : Automaton → List ℕ → Change → List ℕ → List ℕ
painted a text c screen = repainted (between c.place c.end (colours a text)) c (length text) screen
