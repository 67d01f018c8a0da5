-- What copying, preparing and replacing answer: done, or the first refusal that applies.
use Rattle.std.specs.Prelude.{ℕ, ◌-◌, ◌*◌, ◌+◌, ◌&&◌, cond, List, length, Ok, Err, Result, ◌==◌, nat_le}
use Rattle.chunks.specs.Cut.{needed, joined}
use Rattle.tree.specs.declared.chunk_tree.ChunkTree.{ChunkTree}
use Rattle.tree.specs.declared.refusal.CopyRefusal.{CopyRefusal}
use Rattle.tree.specs.declared.refusal.CopyRefusal.TheVariants.{OutsideText, ShortBuffer}
use Rattle.tree.specs.declared.refusal.PrepareRefusal.{PrepareRefusal}
use Rattle.tree.specs.declared.refusal.PrepareRefusal.TheVariants.{Prepared, UnfitNumber, ShortMemory}
use Rattle.tree.specs.declared.refusal.ReplaceRefusal.{ReplaceRefusal}
use Rattle.tree.specs.declared.refusal.ReplaceRefusal.TheVariants.{NoRun, NoRoom}
use Rattle.tree.specs.Public.{chunks_now, usable_of}

module _ {R : Type 0} (T : ChunkTree R) where
  abbrev pub copying : ℕ → ℕ → List ℕ → Result (Unit {0}) CopyRefusal
  copying from to out =
      cond (nat_le from to && nat_le to (length (joined (chunks_now T)))) (cond (nat_le (to - from) (length out)) (Ok tt) (Err ShortBuffer)) (Err OutsideText)

  abbrev pub preparing : ℕ → Result (Unit {0}) PrepareRefusal
  preparing n =
      cond (usable_of T == 0)
      (cond (nat_le 1 n && nat_le n 4096)
      (cond (nat_le n (length T.memory.slots.now) && (nat_le n (length T.memory.readings.now) && nat_le (64 * n) (length T.memory.store.now))) (Ok tt) (Err ShortMemory))
      (Err UnfitNumber))
      (Err Prepared)

  abbrev pub replacing : ℕ → ℕ → List ℕ → Result (Unit {0}) ReplaceRefusal
  replacing from to bytes =
      cond (nat_le from to && nat_le to (length (chunks_now T))) (cond (nat_le (length (chunks_now T) - (to - from) + needed (length bytes)) (usable_of T)) (Ok tt) (Err NoRoom)) (Err NoRun)
