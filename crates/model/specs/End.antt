-- Where an edit ends: the first place behind the new bytes at which the walk through the new text is in the same state
-- as the walk through the old text at the same byte; or the end of the text.
use Rattle.std.specs.Prelude.{◌≡◌, ℕ, suc, ◌+◌, ◌-◌, ◌<◌, ◌≤◌, cond, ◌⊎◌, List, [], ◌∷◌, length, drop, ◌==◌, ◌≢◌}
use Rattle.automaton.specs.Automaton.{Automaton}
use Rattle.automaton.specs.Walk.{state_before}
use Rattle.model.specs.Edit.{edited_text}
use Rattle.model.specs.declared.change.Change.{Change}

-- How many bytes two walks go through, from states s and t, before they are in one state.
abbrev pub apart : Automaton → ℕ → ℕ → List ℕ → ℕ
apart a s t [] = 0
apart a s t (b ∷ bs) = cond (s == t) 0 (suc (apart a (a.step s b) (a.step t b) bs))

unfoldable pub edit_end : Automaton → List ℕ → ℕ → ℕ → List ℕ → ℕ
edit_end a text from to new =
    let after = edited_text text from to new in
    from + length new + apart a (state_before a text to) (state_before a after (from + length new)) (drop to text)

-- The four numbers of an edit.
abbrev pub edit_change : Automaton → List ℕ → ℕ → ℕ → List ℕ → Change
edit_change a text from to new = record { place = from; removed = to - from; inserted = length new; end = edit_end a text from to new }

-- The same as a relation between the old text and the new one: `end` lies behind the new bytes, at no place between do the two
-- walks share a state, and at `end` they do, unless it is the end of the text.
pub record EndsFirst (a : Automaton) (old new : List ℕ) (c : Change) : Type 0 where
  pub behind : c.place + c.inserted ≤ c.end
  pub within : c.end ≤ length new
  pub apart_before : (p : ℕ) → c.place + c.inserted ≤ p → p < c.end → state_before a new p ≢ state_before a old (p + c.removed - c.inserted)
  pub meets : (c.end ≡ length new) ⊎ (state_before a new c.end ≡ state_before a old (c.end + c.removed - c.inserted))
