-- A subtree taken apart at its top slot: what lies on the left, the slot's own chunk with its reading, what lies on the right.
use Rattle.std.specs.Prelude.{◌≡◌, ◌<◌, ◌≤◌, [], ◌∷◌, ◌++◌, length, Some, None, Option}
use Rattle.std.specs.Borrow.{Bor}
use Rattle.measure.specs.Measure.{Measure, reading}
use Rattle.chunks.specs.Tree.{height}
use Rattle.questions.specs.declared.subtree.Subtree.{Subtree}
use Rattle.questions.specs.declared.subtree.Parts.{Parts}
use Rattle.questions.specs.Under.{tree_under, chunks_under, text_under, KeptUnder}

pub record Apart {R : Type 0} (s : Subtree R) (p : Parts R) : Type 0 where
  pub chunks : chunks_under s ≡ chunks_under p.left ++ (p.chunk.now ∷ chunks_under p.right)
  pub few : length (chunks_under s) ≤ 4096
  pub left_lower : height (tree_under p.left) < height (tree_under s)
  pub right_lower : height (tree_under p.right) < height (tree_under s)
  pub some_byte : 1 ≤ length p.chunk.now
  pub few_bytes : length p.chunk.now ≤ 64
  pub left_keeps : (μ : Measure R) → KeptUnder s μ → KeptUnder p.left μ
  pub own_kept : (μ : Measure R) → KeptUnder s μ → p.reading.now ≡ reading μ p.chunk.now
  pub right_keeps : (μ : Measure R) → KeptUnder s μ → KeptUnder p.right μ

abbrev pub Parted : {R : Type 0} → Subtree R → Option (Parts R) → Type 0
Parted s None = chunks_under s ≡ []
Parted s (Some p) = Apart s p

-- The reading kept of all of a subtree, where it is not empty.
abbrev pub KeptAs : {R : Type 0} → Subtree R → Option (Bor R) → Type 0
KeptAs s None = chunks_under s ≡ []
KeptAs {R} s (Some r) = (μ : Measure R) → KeptUnder s μ → r.now ≡ reading μ (text_under s)
