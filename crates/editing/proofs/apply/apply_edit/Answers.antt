use Rattle.std.proofs.Common.{◌-◌, length, sym, ap, ◌∙◌, arith}
use Rattle.automaton.specs.Walk.{walk}
use Rattle.editing.specs.Content.{text_in}
use Rattle.editing.proofs.Planning.{answered_ok}
use Rattle.editing.proofs.Applying.{forward, inside, text_after, end_small, applied, end_told}
use Rattle.editing.proofs.apply.apply_edit.Goals as goal

pub overflow_cast-change-2 : goal.overflow_cast-change-2
overflow_cast-change-2 g c =
    let told = c.in_ok-run.ensures in
    omega (arith, end_small c.args.tree.now c.args.from c.args.to c.args.bytes.now (answered_ok _ _ _ (sym told.is)).0 c.replace_run.new.tree c.replace_run.ensures.chunks told.few c.apart_from.result c.apart_from.ensures.within)

pub overflow_add-change : goal.overflow_add-change
overflow_add-change g c =
    let told = c.in_ok-run.ensures in
    omega (arith, end_small c.args.tree.now c.args.from c.args.to c.args.bytes.now (answered_ok _ _ _ (sym told.is)).0 c.replace_run.new.tree c.replace_run.ensures.chunks told.few c.apart_from.result c.apart_from.ensures.within)

pub returns-clause-applied : goal.returns-clause-applied
returns-clause-applied g c =
    let ok = (answered_ok _ _ _ (sym c.in_ok-run.ensures.is)).0 in
    let made = c.replace_run.ensures in
    applied c.args.tree.now c.args.from c.args.to c.args.bytes.now ok c.replace_run.new.tree made.chunks made.usable made.lent c.apart_from.result c.apart_from.ensures.within

pub returns-clause-ends : goal.returns-clause-ends
returns-clause-ends g c kept =
    let a = g.G.Grammar.meaning c.args.meter.now.first.grammar in
    let ok = (answered_ok _ _ _ (sym c.in_ok-run.ensures.is)).0 in
    let T = c.args.tree.now in
    let from = c.args.from in
    let to = c.args.to in
    let new = c.args.bytes.now in
    let made = c.replace_run.ensures in
    let after = c.replace_run.new.tree in
    let end = end_told a (text_in T) from to new (text_in after) c.state_before.result c.walk.result c.apart_from.result (forward T from to new ok) (inside T from to new ok)
    (text_after T from to new ok after made.chunks) (c.state_before.ensures kept) (c.walk.ensures ∙ ap (λ s. walk a s new) (c.state_before-2.ensures kept)) (c.apart_from.ensures.meets (made.keeps kept)) in
    λ z. record { place = from; removed = to - from; inserted = length new; end = end z }
