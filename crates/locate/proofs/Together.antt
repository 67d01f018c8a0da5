-- Two walks over a whole text: where they end in different states, they have not met.
use Rattle.std.proofs.Common.{◌≡◌, ℕ, Bool, true, false, not, eqb, List, [], ◌∷◌, Some, None, Option, IfSome, sym, refl, ap, ◌∙◌, subst}
use Rattle.std.specs.Bool.{then_some}
use Rattle.std.proofs.lemmas.Bool.{cond-false, ne_eqb, eqb-false}
use Rattle.automaton.specs.Automaton.{Automaton, Lawful}
use Rattle.automaton.specs.Walk.{walk}
use Rattle.measure.specs.Measure.{reading}
use Rattle.measure.specs.Walk.{walk_measure, entry_at}
use Rattle.measure.specs.declared.walk_reading.Entry.{Entry}
use Rattle.measure.specs.declared.walk_reading.Passage.{Passage}
use Rattle.search.specs.Forwards.{then, through}
use Rattle.locate.specs.Meeting.{two_states, meet_on}
use Rattle.locate.specs.declared.two_states.TwoStates.{TwoStates}
use Rattle.locate.proofs.Passages.{passage_told}

pub stays_apart : (a : Automaton) (s t : ℕ) (text : List ℕ) → (walk a s text ≡ walk a t text → ⊥) → through (meet_on a) (two_states s t) text ≡ Some (two_states (walk a s text) (walk a t text))
stays_apart a s t [] ne = refl
stays_apart a s t (b ∷ text) ne =
    ap (λ o. then o (λ x. through (meet_on a) x text)) (cond-false (eqb s t) None (Some (two_states (a.step s b) (a.step t b))) (ne_eqb s t (λ e. ne (ap (λ x. walk a x (b ∷ text)) e))))
    ∙ stays_apart a (a.step s b) (a.step t b) text ne

-- What a reading tells of two walks, by where they end.
pub apart_over_text : (a : Automaton) → Lawful a → (text : List ℕ) (p : Passage) → reading (walk_measure a) text ≡ Some p → (w : TwoStates) (x y : Entry) → x ≡ entry_at p.entries w.old → y ≡ entry_at p.entries w.new →
    (o : Option TwoStates) → o ≡ then_some (not (eqb x.end y.end)) (two_states x.end y.end) → IfSome o (λ z. through (meet_on a) w text ≡ Some z)
apart_over_text a lawful text p is w x y old new o told = subst (λ o. IfSome o (λ z. through (meet_on a) w text ≡ Some z)) (sym told) (by (eqb x.end y.end) refl)
  where
    ends : (s : ℕ) (z : Entry) → z ≡ entry_at p.entries s → z.end ≡ walk a s text
    ends s z e = ap (λ (z : Entry). z.end) (e ∙ (passage_told a lawful text p is).entries s)

    by : (b : Bool) → eqb x.end y.end ≡ b → IfSome (then_some (not b) (two_states x.end y.end)) (λ z. through (meet_on a) w text ≡ Some z)
    by true h = tt
    by false h =
        stays_apart a w.old w.new text (λ z. eqb-false x.end y.end h (ends w.old x old ∙ z ∙ sym (ends w.new y new)))
        ∙ ap (λ s. Some (two_states s (walk a w.new text))) (sym (ends w.old x old))
        ∙ ap (λ s. Some (two_states x.end s)) (sym (ends w.new y new))
