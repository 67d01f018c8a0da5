-- What a subtree has: its tree of slots, its chunks and its text, and that its slots keep a meter's readings.
use Rattle.std.specs.Prelude.{ℕ, List}
use Rattle.measure.specs.Measure.{Measure}
use Rattle.chunks.specs.Tree.{Tree}
use Rattle.chunks.specs.Cut.{joined}
use Rattle.slots.specs.Sound.{tree_of, chunks_in, Kept}
use Rattle.questions.specs.declared.subtree.Subtree.{Subtree}

module _ {R : Type 0} (s : Subtree R) where
  abbrev pub tree_under : Tree
  tree_under = tree_of s.memory.now s.link

  abbrev pub chunks_under : List (List ℕ)
  chunks_under = chunks_in s.memory.now s.link

  abbrev pub text_under : List ℕ
  text_under = joined chunks_under

  -- Every slot of it keeps the meter's reading of exactly the bytes under it.
  abbrev pub KeptUnder : Measure R → Type 0
  KeptUnder μ = Kept μ s.memory.now s.link
