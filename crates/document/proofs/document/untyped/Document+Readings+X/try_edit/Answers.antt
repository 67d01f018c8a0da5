use Rattle.std.proofs.Common.{◌+◌, ◌-◌, ap, ◌∙◌, arith}
use Rattle.document.proofs.Lines.{counted_behind}
use Rattle.document.proofs.document.untyped.Document+Readings+X.try_edit.Goals as goal

pub overflow_sub-self : goal.overflow_sub-self
overflow_sub-self g c =
    let self = c.args.self.now in
    let told = c.in_ok-change.ensures in
    let r = counted_behind self.tree c.apply_edit.new.tree c.args.from c.args.to c.args.bytes.now c.in_ok-change.field-0.change self.lines c.in_ok-change.field-0.lost told.decides told.applied.leaves self.counted told.lost in
    r.enough

pub overflow_cast-self : goal.overflow_cast-self
overflow_cast-self g c =
    let self = c.args.self.now in
    let told = c.in_ok-change.ensures in
    let r = counted_behind self.tree c.apply_edit.new.tree c.args.from c.args.to c.args.bytes.now c.in_ok-change.field-0.change self.lines c.in_ok-change.field-0.lost told.decides told.applied.leaves self.counted told.lost in
    omega (arith, r.few, c.line_ends_of.ensures)

pub overflow_add-self : goal.overflow_add-self
overflow_add-self g c =
    let self = c.args.self.now in
    let told = c.in_ok-change.ensures in
    let r = counted_behind self.tree c.apply_edit.new.tree c.args.from c.args.to c.args.bytes.now c.in_ok-change.field-0.change self.lines c.in_ok-change.field-0.lost told.decides told.applied.leaves self.counted told.lost in
    omega (arith, r.few, c.line_ends_of.ensures)

pub invariant_of-self-2 : goal.invariant_of-self-2
invariant_of-self-2 g c =
    let self = c.args.self.now in
    let told = c.in_ok-change.ensures in
    let r = counted_behind self.tree c.apply_edit.new.tree c.args.from c.args.to c.args.bytes.now c.in_ok-change.field-0.change self.lines c.in_ok-change.field-0.lost told.decides told.applied.leaves self.counted told.lost in
    record {
      counted = ap (λ n. self.lines - c.in_ok-change.field-0.lost + n) c.line_ends_of.ensures ∙ r.sum;
      fitting = told.applied.fitting;
    }
