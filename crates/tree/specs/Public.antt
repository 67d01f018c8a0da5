-- What the calls of a chunk tree say: its tree, its chunks, and when a call can be done.
use Rattle.std.specs.Prelude.{ℕ, ◌+◌, ◌-◌, ◌*◌, Bool, ◌&&◌, List, length, ◌==◌, nat_le}
use Rattle.measure.specs.Measure.{Measure}
use Rattle.chunks.specs.Tree.{Tree}
use Rattle.chunks.specs.Cut.{needed, joined}
use Rattle.tree.specs.declared.chunk_tree.ChunkTree.{ChunkTree}
use Rattle.slots.specs.Sound.{tree_of, chunks_in, Kept}
use Rattle.tree.specs.declared.lent.Lent.{Lent}

module _ {R : Type 0} (T : ChunkTree R) where
  -- The tree of slots that memory holds: left to the program within the balance rule.
  abbrev pub tree_in : Tree
  tree_in = tree_of T.memory T.root

  -- The chunks, in order.
  abbrev pub chunks_now : List (List ℕ)
  chunks_now = chunks_in T.memory T.root

  -- How many slots may be used, and how much memory is lent.
  abbrev pub usable_of : ℕ
  usable_of = T.memory.usable

  abbrev pub lent_to : Lent
  lent_to = record { slots = length T.memory.slots.now; store = length T.memory.store.now; readings = length T.memory.readings.now }

  -- Every slot in the tree keeps the meter's reading of exactly the bytes under it.
  abbrev pub KeptBy : Measure R → Type 0
  KeptBy μ = Kept μ T.memory T.root

  -- The range is one of the text, and a buffer has room for it.
  abbrev pub copyable : ℕ → ℕ → List ℕ → Bool
  copyable from to out = nat_le from to && (nat_le to (length (joined chunks_now)) && nat_le (to - from) (length out))

  -- Nothing is usable yet, n is 1 to 4,096, and the lent slices are long enough for n slots.
  abbrev pub preparable : ℕ → Bool
  preparable n =
      (usable_of == 0) && (nat_le 1 n && (nat_le n 4096 && (nat_le n (length T.memory.slots.now) && (nat_le n (length T.memory.readings.now) && nat_le (64 * n) (length T.memory.store.now)))))

  -- The run of chunks is one, and the chunks after the exchange are at most the usable slots.
  abbrev pub replaceable : ℕ → ℕ → List ℕ → Bool
  replaceable from to bytes = nat_le from to && (nat_le to (length chunks_now) && nat_le (length chunks_now - (to - from) + needed (length bytes)) usable_of)
