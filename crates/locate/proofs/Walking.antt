-- Walking to a place, byte by byte and over a whole text.
use Rattle.std.proofs.Common.{◌≡◌, ℕ, zero, suc, ◌-◌, ◌≤◌, eqb, List, [], ◌∷◌, length, Some, None, sym, refl, ap, ◌∙◌, arith}
use Rattle.std.proofs.lemmas.List.{take_all}
use Rattle.std.proofs.lemmas.Bool.{cond-false, ne_eqb}
use Rattle.automaton.specs.Automaton.{Automaton, Lawful}
use Rattle.automaton.specs.Walk.{walk}
use Rattle.measure.specs.Measure.{reading}
use Rattle.measure.specs.Walk.{walk_measure, entry_at}
use Rattle.measure.specs.declared.walk_reading.Entry.{Entry}
use Rattle.measure.specs.declared.walk_reading.Passage.{Passage}
use Rattle.search.specs.Forwards.{then, through, stop, stop_or}
use Rattle.locate.specs.StateBefore.{walked, walk_on, WalkComesToPlace}
use Rattle.locate.specs.declared.walked.Walked.{Walked}
use Rattle.locate.proofs.Passages.{passage_told}

on_step : (a : Automaton) (s n b : ℕ) → walk_on a (walked (suc n) s) b ≡ Some (walked n (a.step s b))
on_step a s n b =
    let less : suc n - 1 ≡ n = omega arith in
    cond-false (eqb (suc n) 0) None (Some (walked (suc n - 1) (a.step s b))) (ne_eqb (suc n) 0 (λ e. omega arith)) ∙ ap (λ k. Some (walked k (a.step s b))) less

pub walk_comes_to_place : WalkComesToPlace
walk_comes_to_place a s place [] = ap (walk a s) (sym (take_all place [] (omega arith)))
walk_comes_to_place a s zero (b ∷ text) = refl
walk_comes_to_place a s (suc n) (b ∷ text) =
    ap (λ o. (stop_or (walked (suc n) s) o (λ x. stop (walk_on a) x text)).at.state) (on_step a s n b) ∙ walk_comes_to_place a (a.step s b) n text

-- A text that ends before the place is walked through.
pub walks_through : (a : Automaton) (s left : ℕ) (text : List ℕ) → length text ≤ left → through (walk_on a) (walked left s) text ≡ Some (walked (left - length text) (walk a s text))
walks_through a s left [] h = let none : left ≡ left - 0 = omega arith in ap (λ k. Some (walked k s)) none
walks_through a s zero (b ∷ text) h = absurd (omega arith)
walks_through a s (suc n) (b ∷ text) h =
    let fewer : n - length text ≡ suc n - suc (length text) = omega arith in
    ap (λ o. then o (λ x. through (walk_on a) x text)) (on_step a s n b) ∙ walks_through a (a.step s b) n text (omega arith) ∙ ap (λ k. Some (walked k (walk a (a.step s b) text))) fewer

pub walked_over : (a : Automaton) → Lawful a → (at : Walked) (text : List ℕ) (p : Passage) → reading (walk_measure a) text ≡ Some p → p.length ≤ at.left → through (walk_on a) at text ≡ Some (walked (at.left - p.length) (entry_at p.entries at.state).end)
walked_over a lawful at text p e short =
    let told = passage_told a lawful text p e in
    walks_through a at.state at.left text (omega (arith, told.long))
    ∙ ap (λ k. Some (walked (at.left - k) (walk a at.state text))) (sym told.long)
    ∙ ap (λ (x : Entry). Some (walked (at.left - p.length) x.end)) (sym (told.entries at.state))
