-- What a search for a partner that has ended tells.
use Rattle.std.proofs.Common.{◌≡◌, ℕ, ◌+◌, ◌-◌, Bool, true, false, cond, List, take, drop, Some, None, Option, refl, ap, ◌∙◌, arith}
use Rattle.std.specs.Bool.{then_some}
use Rattle.automaton.specs.Automaton.{Automaton}
use Rattle.automaton.specs.Walk.{state_before}
use Rattle.automaton.specs.declared.role.BracketKind.{BracketKind}
use Rattle.automaton.specs.declared.role.Role.TheVariants.{Opening, Closing}
use Rattle.search.specs.declared.stop.Stop.{Stop}
use Rattle.search.specs.Forwards.{stop}
use Rattle.search.specs.Backwards.{back_stop}
use Rattle.brackets.specs.Partner.{role_at, partner_ahead, partner_behind}
use Rattle.locate.specs.PartnerAhead.{nested, ahead_on}
use Rattle.locate.specs.PartnerBehind.{traced, trace_on, behind_on}
use Rattle.locate.specs.ComesToPartner.{stopped_before, stopped_behind}
use Rattle.locate.specs.declared.nested.Nested.{Nested}
use Rattle.locate.proofs.Partners.{ahead_comes_to_partner, behind_comes_to_partner}
use Rattle.tree.specs.declared.chunk_tree.ChunkTree.{ChunkTree}
use Rattle.editing.specs.Content.{text_in}
use Rattle.editing.proofs.Short.{text_short}

-- A place that is told where a search has stopped.
pub then_is : (stopped : Bool) (m n : ℕ) → m ≡ n → then_some stopped m ≡ cond stopped (Some n) None
then_is true m n e = ap Some e
then_is false m n e = refl

module _ {R : Type 0} (T : ChunkTree R) (a : Automaton) (p : ℕ) (kind : BracketKind) where
  abbrev text : List ℕ
  text = text_in T

  pub ahead : role_at a text p ≡ Opening kind → (state : ℕ) → state ≡ state_before a text (p + 1) → (s : Stop Nested) → s ≡ stop (ahead_on a) (nested state 1) (drop (p + 1) text) →
      (o : Option ℕ) → o ≡ then_some s.stopped (p + 1 + s.passed) → o ≡ partner_ahead a text p
  ahead is state right s found o told =
      told ∙ then_is s.stopped _ _ refl
      ∙ ap (stopped_before (p + 1)) (found ∙ ap (λ z. stop (ahead_on a) (nested z 1) (drop (p + 1) text)) right) ∙ ahead_comes_to_partner a text p kind (omega (arith, text_short T)) is

  pub behind : role_at a text p ≡ Closing kind → (s : Stop ℕ) → s ≡ back_stop (trace_on a) (behind_on a) (Some (traced 0 0)) (take p text) 1 →
      (o : Option ℕ) (place : ℕ) → o ≡ then_some s.stopped place → place ≡ (p - s.passed) - 1 → o ≡ partner_behind a text p
  behind is s found o place told at = told ∙ then_is s.stopped _ _ at ∙ ap (stopped_behind p) found ∙ behind_comes_to_partner a text p kind (text_short T) is
