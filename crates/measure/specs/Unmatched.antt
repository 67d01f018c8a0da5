-- Brackets that a run of bytes leaves unmatched. The bytes are read from state s on, and only live brackets count.
-- An opening is matched by the closing that brings openings and closings level; kinds play no part in it.
use Rattle.std.specs.Prelude.{◌≡◌, ℕ, ◌+◌, ◌-◌, ◌≤◌, List, [], ◌∷◌, length, take}
use Rattle.automaton.specs.Automaton.{Automaton}
use Rattle.automaton.specs.Bracket.{role}
use Rattle.automaton.specs.declared.role.Role.{Role}
use Rattle.automaton.specs.declared.role.Role.TheVariants.{Plain, Opening, Closing}

abbrev pub opens : {K : Type 0} → Role K → ℕ
opens Plain = 0
opens (Opening kind) = 1
opens (Closing kind) = 0

abbrev pub closes : {K : Type 0} → Role K → ℕ
closes Plain = 0
closes (Opening kind) = 0
closes (Closing kind) = 1

-- The live openings and the live closings.
abbrev pub openings_in : Automaton → ℕ → List ℕ → ℕ
openings_in a s [] = 0
openings_in a s (b ∷ bs) = opens (role a s b) + openings_in a (a.step s b) bs

abbrev pub closings_in : Automaton → ℕ → List ℕ → ℕ
closings_in a s [] = 0
closings_in a s (b ∷ bs) = closes (role a s b) + closings_in a (a.step s b) bs

-- The closings without an opening: an opening in front takes one of them, where there is one.
abbrev pub unmatched_closings : Automaton → ℕ → List ℕ → ℕ
unmatched_closings a s [] = 0
unmatched_closings a s (b ∷ bs) = (closes (role a s b) + unmatched_closings a (a.step s b) bs) - opens (role a s b)

-- The openings without a closing: all but those that the other closings match.
abbrev pub unmatched_openings : Automaton → ℕ → List ℕ → ℕ
unmatched_openings a s bs = (openings_in a s bs + unmatched_closings a s bs) - closings_in a s bs

-- The same by depth, which is openings less closings up to a place: `closings` is how far the depth ever falls below
-- its start, and `openings` how far it ends above its least.
pub record Unmatched (a : Automaton) (s : ℕ) (bytes : List ℕ) (closings openings : ℕ) : Type 0 where
  -- up to no place do closings lead by more
  pub never_more : (place : ℕ) → closings_in a s (take place bytes) ≤ openings_in a s (take place bytes) + closings
  -- and up to some place they lead by so many
  pub reached : (place : ℕ) × (place ≤ length bytes) × (closings_in a s (take place bytes) ≡ openings_in a s (take place bytes) + closings)
  -- in the end
  pub left_open : openings_in a s bytes + closings ≡ closings_in a s bytes + openings

-- By depth there is one answer, and it is the count above.
pub record CountedByDepth (a : Automaton) : Type 0 where
  pub right : (s : ℕ) (bytes : List ℕ) → Unmatched a s bytes (unmatched_closings a s bytes) (unmatched_openings a s bytes)
  pub alone : (s : ℕ) (bytes : List ℕ) (closings openings : ℕ) → Unmatched a s bytes closings openings → (closings ≡ unmatched_closings a s bytes) × (openings ≡ unmatched_openings a s bytes)
