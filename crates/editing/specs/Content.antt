-- A document's content, as its tree has it.
use Rattle.std.specs.Prelude.{ℕ, List, Option}
use Rattle.automaton.specs.Automaton.{Automaton}
use Rattle.measure.specs.Measure.{Measure}
use Rattle.measure.specs.Pair.{pair_measure}
use Rattle.measure.specs.Place.{place_measure}
use Rattle.measure.specs.Walk.{walk_measure}
use Rattle.measure.specs.declared.pair_reading.PairReading.{PairReading}
use Rattle.measure.specs.declared.place_reading.Extent.{Extent}
use Rattle.measure.specs.declared.walk_reading.Passage.{Passage}
use Rattle.meter.specs.declared.pair_meter.Pair.{Pair}
use Rattle.meter.specs.declared.place_meter.Place.{Place}
use Rattle.walks.specs.declared.walk_meter.Walk.{Walk}
use Rattle.chunks.specs.Cut.{joined}
use Rattle.model.specs.declared.change.Change.{Change}
use Rattle.model.specs.Model.{Model}
use Rattle.tree.specs.declared.chunk_tree.ChunkTree.{ChunkTree}
use Rattle.tree.specs.Public.{chunks_now, usable_of, lent_to}

-- The document's meter: walks by its grammar, places, and whatever the host measures.
abbrev pub document_measure : {X : Type 0} → Automaton → Measure X → Measure (PairReading (Option Passage) (PairReading (Option Extent) X))
document_measure a host = pair_measure (walk_measure a) (pair_measure place_measure host)

-- What a document's meter measures, by what its grammar means and what its host measures: `scale_of G.meaning H.scale meter.now`.
abbrev pub scale_of : {G H X : Type 0} → (G → Automaton) → (H → Measure X) → Pair (Walk G) (Pair Place H) → Measure (PairReading (Option Passage) (PairReading (Option Extent) X))
scale_of meaning scale meter = document_measure (meaning meter.first.grammar) (scale meter.second.second)

abbrev pub text_in : {R : Type 0} → ChunkTree R → List ℕ
text_in T = joined (chunks_now T)

-- The document whose tree it is, with the due that stands.
abbrev pub model_in : {R : Type 0} → ChunkTree R → Option Change → Model
model_in T due = record {
  slots = (lent_to T).slots;
  store = (lent_to T).store;
  readings = (lent_to T).readings;
  usable = usable_of T;
  chunks = chunks_now T;
  due = due;
}
