use Rattle.std.proofs.Common.{◌≡◌}
use Rattle.std.specs.Slice.Iter.{chunks_rest, chunks_size}
use Rattle.measure.specs.Blank.{blank_measure}
use Rattle.measure.specs.Pair.{pair_measure}
use Rattle.measure.specs.Place.{place_measure}
use Rattle.measure.specs.Walk.{walk_measure}
use Rattle.tree.specs.Public.{chunks_now, KeptBy}
use Rattle.load.proofs.Piecewise.{SoFar}
use Rattle.load.proofs.loading.load.Given as goal

abbrev pub invariant-loop-piece : goal.invariant-loop-piece
invariant-loop-piece g l = record {
  pieces : chunks_size l.piece-iterator ≡ 1024;
  so_far : SoFar l.text (chunks_rest l.piece-iterator) l.usable (chunks_now l.tree);
  usable : l.tree.memory.usable ≡ l.usable;
  kept : KeptBy l.tree (pair_measure (walk_measure (g.G.Grammar.meaning l.meter.first.grammar)) (pair_measure place_measure blank_measure));
}
