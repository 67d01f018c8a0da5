-- What cutting comes to, as relations. The law stands on the contract of a function of src/laws.rt, so that it is proved.
use Rattle.std.specs.Prelude.{◌≡◌, ℕ, ◌+◌, ◌≤◌, List, ◌∷◌, ◌++◌, length}
use Rattle.std.specs.List.{AllByRecursion}
use Rattle.chunks.specs.Cut.{cut, joined, Chunk}

-- Of two chunks the first is not the shorter one, and not longer by more than a byte.
pub record Even (c d : List ℕ) : Type 0 where
  pub longer_first : length d ≤ length c
  pub by_one : length c ≤ length d + 1

-- The chunks of some bytes hold them in order, as few as any chunks that do, and as even as can be, the longer ones first.
pub record CutIsFewAndEven : Type 0 where
  pub holds : (bytes : List ℕ) → joined (cut bytes) ≡ bytes
  pub chunks : (bytes : List ℕ) → AllByRecursion Chunk (cut bytes)
  pub fewest : (chunks : List (List ℕ)) → AllByRecursion Chunk chunks → length (cut (joined chunks)) ≤ length chunks
  pub even : (bytes : List ℕ) (front between behind : List (List ℕ)) (c d : List ℕ) → cut bytes ≡ front ++ (c ∷ (between ++ (d ∷ behind))) → Even c d
