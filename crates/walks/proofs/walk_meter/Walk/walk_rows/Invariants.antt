use Rattle.std.proofs.Common.{◌≡◌, ◌++◌, ℕ, List}
use Rattle.std.specs.Slice.Iter.{chunks_rest, chunks_size}
use Rattle.measure.specs.Walk.{rows, entry}
use Rattle.walks.proofs.walk_meter.Walk.walk_rows.Given as goal

-- The walks through the bytes so far.
abbrev pub invariant-loop-stretch : goal.invariant-loop-stretch
invariant-loop-stretch g l = record {
  strides : chunks_size l.stretch-iterator ≡ 8;
  so_far : (read : List ℕ) × ((read ++ chunks_rest l.stretch-iterator ≡ l.bytes) × (l.entries ≡ rows (λ s. entry (g.G.Grammar.meaning l.self.grammar) s read)));
}
