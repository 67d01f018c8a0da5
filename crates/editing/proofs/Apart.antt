-- The search for a meeting goes as far as the two walks are apart.
use Rattle.std.proofs.Common.{◌≡◌, ℕ, suc, eqb, List, [], ◌∷◌, Some, None, sym, refl, ap, ◌∙◌, ⊎_elim, arith}
use Rattle.std.proofs.lemmas.Bool.{cases_eq, cond-true, cond-false, eq-eqb, ne_eqb}
use Rattle.automaton.specs.Automaton.{Automaton}
use Rattle.search.specs.Forwards.{stop, stop_or}
use Rattle.locate.specs.Meeting.{two_states, meet_on}
use Rattle.locate.specs.declared.two_states.TwoStates.{TwoStates}
use Rattle.model.specs.End.{apart}

pub stop_apart : (a : Automaton) (w : TwoStates) (bytes : List ℕ) → (stop (meet_on a) w bytes).passed ≡ apart a w.old w.new bytes
stop_apart a w [] = refl
stop_apart a w (b ∷ bytes) =
    let next = two_states (a.step w.old b) (a.step w.new b) in
    let rest = apart a next.old next.new bytes in
    ⊎_elim
    (λ e. ap (λ o. (stop_or w o (λ x. stop (meet_on a) x bytes)).passed) (cond-true (eqb w.old w.new) None (Some next) (eq-eqb w.old w.new e)) ∙ sym (cond-true (eqb w.old w.new) 0 (suc rest) (eq-eqb w.old w.new e)))
    (λ ne. ap (λ o. (stop_or w o (λ x. stop (meet_on a) x bytes)).passed) (cond-false (eqb w.old w.new) None (Some next) (ne_eqb w.old w.new ne))
    ∙ omega (arith, stop_apart a next bytes) ∙ sym (cond-false (eqb w.old w.new) 0 (suc rest) (ne_eqb w.old w.new ne)))
    (cases_eq w.old w.new)
