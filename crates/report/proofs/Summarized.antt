-- What the two meters read of a text is its summary.
use Rattle.std.proofs.Common.{◌≡◌, ℕ, ◌<◌, ◌≤◌, leb, List, length, Some, None, Option, sym, ap, ◌∙◌, ⊎_elim, arith}
use Rattle.std.proofs.lemmas.Bool.{cases_lt, cond-true, cond-false, le-leb, lt-leb}
use Rattle.automaton.specs.Automaton.{Automaton, Lawful}
use Rattle.measure.specs.Bounded.{longest}
use Rattle.measure.specs.Measure.{Measure, reading}
use Rattle.measure.specs.Pair.{pair_measure}
use Rattle.measure.specs.Place.{extent, place_measure, place_reading}
use Rattle.measure.specs.Walk.{entry, passage, still, walk_measure, walk_reading}
use Rattle.measure.proofs.Bounded.{bounded_within, bounded_over}
use Rattle.measure.proofs.Pair.{pair_reading}
use Rattle.measure.proofs.Place.{place_is}
use Rattle.measure.proofs.Rows.{get_d_rows}
use Rattle.measure.proofs.Walk.{walk_is}
use Rattle.measure.specs.declared.pair_reading.PairReading.{PairReading}
use Rattle.measure.specs.declared.walk_reading.Entry.{Entry}
use Rattle.report.specs.Summary.{summary, summarized}
use Rattle.report.specs.declared.summary.Summary.{Summary}

module _ (a : Automaton) (text : List ℕ) where
  abbrev with_start : Entry → Option Summary
  with_start e =
      let x = extent text in
      Some (record { length = x.length; lines = x.lines; units = x.units; state = e.end; closings = e.closings; openings = e.openings })

  within : length text ≤ longest → summarized (walk_reading a text) (place_reading text) ≡ summary a text
  within h =
      ap (λ w. summarized w (place_reading text)) (bounded_within (passage a) text h)
      ∙ ap (summarized (Some (passage a text))) (bounded_within extent text h)
      ∙ ap with_start (get_d_rows (λ s. entry a s text) 0 (still 0) (omega arith))
      ∙ sym (cond-true (leb (length text) longest) (with_start (entry a 0 text)) None (le-leb (length text) longest h))

  over : longest < length text → summarized (walk_reading a text) (place_reading text) ≡ summary a text
  over h =
      ap (λ w. summarized w (place_reading text)) (bounded_over (passage a) text h)
      ∙ sym (cond-false (leb (length text) longest) (with_start (entry a 0 text)) None (lt-leb (length text) longest h))

  pub summarized_is : Lawful a → {H : Type 0} (μ : Measure H) (r : PairReading _ _) → r ≡ reading (pair_measure (walk_measure a) (pair_measure place_measure μ)) text → summarized r.first r.second.first ≡ summary a text
  summarized_is lawful μ r measured =
      let parts = measured ∙ pair_reading (walk_measure a) (pair_measure place_measure μ) text in
      ap (λ q. summarized q.first q.second.first) parts
      ∙ ap (summarized (reading (walk_measure a) text)) (ap (λ q. q.first) (pair_reading place_measure μ text))
      ∙ ap (λ w. summarized w (reading place_measure text)) (walk_is a lawful text)
      ∙ ap (summarized (walk_reading a text)) (place_is text)
      ∙ ⊎_elim over within (cases_lt longest (length text))
