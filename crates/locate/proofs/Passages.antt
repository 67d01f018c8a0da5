-- What a passage tells of its text, from every number that a state may have.
use Rattle.std.proofs.Common.{◌≡◌, ℕ, ◌<◌, List, length, sym, ap, ◌∙◌, ⊎_elim, arith, Some, None}
use Rattle.std.proofs.lemmas.List.{get_or_past}
use Rattle.std.proofs.lemmas.Bool.{cases_lt}
use Rattle.automaton.specs.Automaton.{Automaton, Lawful}
use Rattle.measure.specs.Bounded.{longest}
use Rattle.measure.specs.Measure.{reading}
use Rattle.measure.specs.Walk.{entry, passage, still, entry_at, walk_measure}
use Rattle.measure.proofs.Bounded.{bounded_within, bounded_over}
use Rattle.measure.proofs.Rows.{length_rows, get_d_rows}
use Rattle.measure.proofs.Walk.{walk_is, outside_entry}
use Rattle.measure.specs.declared.walk_reading.Passage.{Passage}

module _ (a : Automaton) (lawful : Lawful a) (text : List ℕ) where
  entry_said : (s : ℕ) → entry_at (passage a text).entries s ≡ entry a s text
  entry_said s =
      ⊎_elim (λ h. get_d_rows (λ s. entry a s text) s (still s) h)
      (λ h. get_or_past (passage a text).entries s (still s) (omega (arith, length_rows (λ s. entry a s text))) ∙ sym (outside_entry a lawful s text (omega (arith, lawful.few_states))))
      (cases_lt s 64)

  -- The passage of a text that is not overlong.
  pub record Told (p : Passage) : Type 0 where
    pub long : p.length ≡ length text
    pub entries : (s : ℕ) → entry_at p.entries s ≡ entry a s text

  pub passage_told : (p : Passage) → reading (walk_measure a) text ≡ Some p → Told p
  passage_told p e =
      let told = walk_is a lawful text in
      ⊎_elim (λ h. let over = bounded_over (passage a) text h in absurd (cc))
      (λ h.
      let within = bounded_within (passage a) text h in
      let same : p ≡ passage a text = cc in
      record { long = ap (λ (q : Passage). q.length) same; entries = λ s. ap (λ (q : Passage). entry_at q.entries s) same ∙ entry_said s })
      (cases_lt longest (length text))

  -- Without a reading the text is overlong.
  pub overlong_told : None ≡ reading (walk_measure a) text → longest < length text
  overlong_told none =
      ⊎_elim (λ h. h) (λ h. let within = bounded_within (passage a) text h in let is : None ≡ Some (passage a text) = none ∙ walk_is a lawful text ∙ within in absurd (cc)) (cases_lt longest (length text))
