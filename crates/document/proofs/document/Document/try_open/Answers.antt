use Rattle.std.proofs.Common.{◌≡◌, true, is_ok, [], sym, ap, ◌∙◌}
use Rattle.std.specs.Prelude.{Ok, Err, Result, OnOk}
use Rattle.std.proofs.lemmas.Bool.{cond-true, false≢true}
use Rattle.tree.specs.declared.lent.Lent.{Lent}
use Rattle.tree.specs.Public.{chunks_now, preparable}
use Rattle.document.proofs.Opening.{can_prepare, still_counted, still_fits}
use Rattle.document.proofs.document.Document.try_open.Goals as goal

-- What is ensured of a call that was done.
on_done : {E P : Type 0} (r : Result (Unit {0}) E) → is_ok r ≡ true → OnOk r P → P
on_done (Ok _) e p = p
on_done (Err _) e p = absurd (false≢true e)

pub invariant_of-self : goal.invariant_of-self
invariant_of-self g c =
    let self = c.args.self.now in
    let T = self.tree in
    let passes = sym c.in_ok-may_open.ensures in
    let done : is_ok c.prepare.result ≡ true = c.prepare.ensures.done ∙ ap (λ (l : Lent). preparable T l.slots) c.lent-slots.ensures ∙ can_prepare T self.due c.args.states passes in
    let none = c.prepare.ensures.chunks ∙ cond-true (is_ok c.prepare.result) [] (chunks_now T) done in
    record { counted = still_counted T self.due c.args.states passes c.prepare.new.self self.lines none self.counted; fitting = still_fits T self.due c.args.states passes c.prepare.new.self none self.fitting }

pub returns-clause-keeps : goal.returns-clause-keeps
returns-clause-keeps g c μ kept =
    let self = c.args.self.now in
    let T = self.tree in
    let passes = sym c.in_ok-may_open.ensures in
    let done : is_ok c.prepare.result ≡ true = c.prepare.ensures.done ∙ ap (λ (l : Lent). preparable T l.slots) c.lent-slots.ensures ∙ can_prepare T self.due c.args.states passes in
    on_done c.prepare.result done c.prepare.ensures.keeps μ
