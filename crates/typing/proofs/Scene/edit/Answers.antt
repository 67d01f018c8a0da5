use Rattle.std.proofs.Common.{◌≡◌, ◌≤◌, length, None, sym, subst, arith}
use Rattle.model.specs.Model.{text_of}
use Rattle.model.specs.Calls.{edited, paint_refusal}
use Rattle.document.specs.Content.{model_of}
use Rattle.editing.proofs.Short.{text_short}
use Rattle.document.proofs.Waiting.{due_painted}
use Rattle.typing.proofs.Scene.edit.Goals as goal

pub paint-requires : goal.paint-requires
paint-requires c =
    let m = model_of c.args.self.now.document in
    let bytes = c.as_bytes.result.now in
    let due = c.in-Ok.due.change in
    let done = c.in-Ok.ensures in
    let cells = length c.args.self.now.screen.now in
    let fits : length (text_of (edited m c.args.from c.args.to bytes due)) ≤ cells = subst (λ n. length (text_of n) ≤ cells) done.after (omega (arith, text_short c.edit.new.self.tree)) in
    subst (λ n. paint_refusal n due cells ≡ None) (sym done.after) (due_painted m c.args.from c.args.to bytes due cells (sym done.decides) done.numbers.1.0 done.numbers.1.1 (omega (arith, text_short c.args.self.now.document.tree)) fits)
