-- What the definitions come to, as relations: how a walk goes, what a colour is, and where a walk can be cut.
-- Each of these laws stands on the contract of a function of src/laws.rt, so that it is proved.
use Rattle.std.specs.Prelude.{◌≡◌, ℕ, ◌+◌, ◌<◌, List, ◌++◌, length, slice_index}
use Rattle.automaton.specs.Automaton.{Automaton, Lawful}
use Rattle.automaton.specs.Walk.{walk, colours_from, state_before, colours}
use Rattle.automaton.specs.Words.{words}
use Rattle.automaton.specs.Comment.{comment}
use Rattle.automaton.specs.Quoted.{quoted}
use Rattle.automaton.specs.Region.{region}

-- At place 0 a text's walk is in state 0, and from place to place it goes by the step of the byte between.
abbrev pub WalkTakesEachStep : Type 0
WalkTakesEachStep = (a : Automaton) (text : List ℕ) → (state_before a text 0 ≡ 0) × ((i : ℕ) → i < length text → state_before a text (i + 1) ≡ a.step (state_before a text i) (slice_index text i))

-- Cells that show a text: one for each byte, each the byte's class from the state before it.
pub record Shows (a : Automaton) (text cells : List ℕ) : Type 0 where
  pub long : length cells ≡ length text
  pub each : (i : ℕ) → i < length text → slice_index cells i ≡ a.class (state_before a text i) (slice_index text i)

-- The colours of a text show it, and nothing else does.
abbrev pub ColoursAloneShow : Type 0
ColoursAloneShow = (a : Automaton) (text : List ℕ) → Shows a text (colours a text) × ((cells : List ℕ) → Shows a text cells → cells ≡ colours a text)

-- A walk, and its colours, can be cut at every place and taken up again from the state there.
abbrev pub WalkCanBeCut : Type 0
WalkCanBeCut = (a : Automaton) (s : ℕ) (xs ys : List ℕ) → (walk a s (xs ++ ys) ≡ walk a (walk a s xs) ys) × (colours_from a s (xs ++ ys) ≡ colours_from a s xs ++ colours_from a (walk a s xs) ys)

-- A walk of a lawful automaton stays among its states.
abbrev pub WalkStaysBelow : Type 0
WalkStaysBelow = (a : Automaton) → Lawful a → (s : ℕ) (bs : List ℕ) → s < a.count → walk a s bs < a.count

-- Scene words is lawful, and so is every layer over lawful grammars.
pub record PilesAreLawful : Type 0 where
  pub scene_words : Lawful words
  pub comments : (G : Automaton) → Lawful G → Lawful (comment G)
  pub strings : (G : Automaton) → Lawful G → Lawful (quoted G)
  pub regions : (G H : Automaton) → Lawful G → Lawful H → Lawful (region G H)
