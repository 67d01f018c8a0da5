-- The lines of a session, one after another: what each of them does, and what is written.
-- The lines are numbered from 1. One that cannot be read is told with its number, and changes nothing.
use Rattle.std.specs.Prelude.{◌≡◌, ℕ, ◌+◌, ◌-◌, ◌^◌, Bool, true, cond, ◌&&◌, List, [], ◌∷◌, ◌++◌, take, ⊤, Some, None, Option, Ok, Err, IfSome, is_ok, codes, decimal, ◌==◌}
use Rattle.std.specs.Io.KnownBytes.{Appends, IsAtEnd}
use Rattle.automaton.specs.Automaton.{Automaton}
use Rattle.measure.specs.Measure.{Measure}
use Rattle.document.specs.Snapshot.{Snapshot}
use Rattle.session.specs.declared.problem.Problem.{Problem}
use Rattle.session.specs.Asked.{Asked, Reading, problem_text}
use Rattle.session.specs.Request.{request_of}
use Rattle.hosting.specs.Replies.{Readings, Replies}

-- Lines with a byte more in front of the first of them.
abbrev pub with_first : ℕ → List (List ℕ) → List (List ℕ)
with_first b [] = (b ∷ []) ∷ []
with_first b (line ∷ lines) = (b ∷ line) ∷ lines

-- The lines of an input: each ends at a line feed, which is no part of it; behind the last line feed there is one more line if
-- there is a byte.
abbrev pub lines_of : List ℕ → List (List ℕ)
lines_of [] = []
lines_of (b ∷ bs) = cond (b == 0x0A) ([] ∷ lines_of bs) (with_first b (lines_of bs))

-- The lines of a session are counted in 64 bits. No session is so long; one that were would end behind that many lines.
abbrev pub most_lines : ℕ
most_lines = 2 ^ 64 - 2

abbrev pub problem_line : ℕ → Problem → List ℕ
problem_line number p = codes "error: " ++ (decimal number ++ (codes ": " ++ (problem_text p ++ (0x0A ∷ []))))

-- An answer is written as a line; where there is none, nothing is.
abbrev pub answer_line : Option (List ℕ) → List ℕ
answer_line None = []
answer_line (Some answer) = answer ++ (0x0A ∷ [])

module _ {X : Type 0} (a : Automaton) (μ : Measure (Readings X)) where
  -- What a line of that number does, by what was read of it.
  abbrev pub Answered : ℕ → Reading Asked → Snapshot (Readings X) → Snapshot (Readings X) → List ℕ → Type 0
  Answered number (Err problem) before after written = (after ≡ before) × (written ≡ problem_line number problem)
  Answered number (Ok r) before after written = (answer : Option (List ℕ)) × (Replies a μ r before after answer × (written ≡ answer_line answer))

  -- What some lines do, one after another; the first of them has that number.
  abbrev pub Conversed : ℕ → List (List ℕ) → Snapshot (Readings X) → Snapshot (Readings X) → List ℕ → Type 0
  Conversed number [] before after written = (after ≡ before) × (written ≡ [])
  Conversed number (line ∷ lines) before after written =
      (between : Snapshot (Readings X)) × (first : List ℕ) × (others : List ℕ) ×
      (Answered number (request_of line) before between first × (Conversed (number + 1) lines between after others × (written ≡ first ++ others)))

-- Whether every line could be read.
abbrev pub all_readable : List (List ℕ) → Bool
all_readable [] = true
all_readable (line ∷ lines) = is_ok (request_of line) && all_readable lines

-- A conversation from one snapshot to another: the lines that were read, and what was written. Where the bytes of the reader are
-- known, the lines are theirs; where those that the writer holds are known, it holds what was written behind them.
pub record Conversation {X : Type 0} (a : Automaton) (μ : Measure (Readings X)) (input held holds : Option (List ℕ)) (before after : Snapshot (Readings X)) (readable : Bool) : Type 0 where
  pub lines : List (List ℕ)
  pub written : List ℕ
  pub lines_are : IfSome input (λ bytes. lines ≡ take most_lines (lines_of bytes))
  pub conversed : Conversed a μ 1 lines before after written
  pub readable_is : readable ≡ all_readable lines
  pub appends : Appends held holds written

-- One line was answered with that number, and what was written of it reached the writer.
abbrev pub AnswersLine : {X : Type 0} → Automaton → Measure (Readings X) → ℕ → Reading Asked → Snapshot (Readings X) → Snapshot (Readings X) → Option (List ℕ) → Option (List ℕ) → Type 0
AnswersLine a μ number read before after held holds = (written : List ℕ) × (Answered a μ number read before after written × Appends held holds written)

-- Where the bytes of a reader are known, these lines were read of them, and the lines of what is left are behind.
abbrev pub ReadsLines : Option (List ℕ) → Option (List ℕ) → List (List ℕ) → Type 0
ReadsLines None left lines = ⊤
ReadsLines (Some bytes) None lines = ⊥
ReadsLines (Some bytes) (Some others) lines = lines_of bytes ≡ lines ++ lines_of others

-- The next line was read, if there was one.
abbrev pub ReadsNext : Bool → Option (List ℕ) → Option (List ℕ) → List ℕ → Type 0
ReadsNext some input left line = cond some (ReadsLines input left (line ∷ [])) (IsAtEnd input)
