-- What each call leaves for the next.
use Rattle.std.proofs.Common.{◌≡◌, ℕ, Bool, true, false, ◌&&◌, eqb, leb, Some, None, Option, refl, arith}
use Rattle.std.specs.Prelude.{Decides}
use Rattle.std.proofs.lemmas.Bool.{cond-true, ne_eqb}
use Rattle.std.proofs.lemmas.Bool.Decides.{Decides-and}
use Rattle.model.specs.declared.change.Change.{Change}
use Rattle.model.specs.declared.refusal.Refusal.{Refusal}
use Rattle.model.specs.declared.refusal.Refusal.TheVariants.{OpenedBefore, UnknownDue}
use Rattle.model.specs.Calls.{open_refusal, opened, edited, same_change, screen_refusal}
use Rattle.model.specs.Laws.{CallsTakeTurns}
use Rattle.model.specs.Model.{Model}
use Rattle.model.specs.Reasons.{Said, Needs}
use Rattle.model.proofs.Editing.{edit_leaves_text}
use Rattle.model.proofs.Refusing.{orders, equals, same_changes, calls_are_refused_in_order}

own_due : (c : Change) → same_change c c ≡ true
own_due c = (same_changes c c).1 refl

-- A call that was taken met each need.
met : (t : Bool) (P : Type 0) (refusal : Refusal) (said : Said) (refused : Option Refusal) → Decides t P → Needs P refusal said refused → refused ≡ None → P × said refused
met true P refusal said refused d need taken = (d.0 refl, need.met (d.0 refl))
met false P refusal said refused d need taken = absurd (cc (need.unmet (λ p. cc (d.1 p))))

module _ (m : Model) where
  opened_once : (states later : ℕ) → open_refusal m states ≡ None → open_refusal (opened m) later ≡ Some OpenedBefore
  opened_once states later taken =
      let first = met (eqb m.usable 0) _ _ _ _ (equals m.usable 0) (calls_are_refused_in_order.opens m states) taken in
      let second = met (leb 1 m.slots && leb m.slots 4096) _ _ _ _ (Decides-and _ _ (orders 1 m.slots) (orders m.slots 4096)) first.1 taken in
      let some : m.slots ≡ 0 → ⊥ = λ e. omega (arith, second.0.0) in
      cc (ne_eqb m.slots 0 some)

pub calls_take_turns : CallsTakeTurns
calls_take_turns = record {
  opened_once = opened_once;
  opened_empty = λ m. refl;
  edit_waits = λ m c from to f t new bytes. refl;
  edit_changes = λ m c from to new forward inside. edit_leaves_text m.chunks from to new forward inside;
  due_is_found = λ m c from to cells new. let behind = edited m from to new c in cond-true (same_change c c) (screen_refusal behind c cells) (Some (UnknownDue c.place)) (own_due c);
  paint_settles = λ m. refl;
  paint_keeps = λ m. refl;
  open_is_lent = λ m. record { slots = refl; store = refl; readings = refl };
  edit_is_lent = λ m c from to new. (record { slots = refl; store = refl; readings = refl }, refl);
  paint_is_lent = λ m. (record { slots = refl; store = refl; readings = refl }, refl);
}
