use Rattle.std.proofs.Common.{◌++◌, vec_items, sym, ap, ◌∙◌}
use Rattle.std.proofs.lemmas.Slice.Zip.{either_empty_from_Zip}
use Rattle.report.proofs.Pieces.{rendered_end}
use Rattle.report.proofs.render.render.Goals as goal

pub returns : goal.returns
returns c =
    let over = either_empty_from_Zip c.loop-byte.byte-iterator c.next.new.self c.next.result c.in-None.is c.next.ensures.steps in
    let none = rendered_end c.args.view c.loop-byte.last c.loop-byte.byte-iterator.a.rest.now c.loop-byte.byte-iterator.b.rest.now over in
    c.in_ok-put_closing.ensures ∙ ap (λ l. vec_items c.loop-byte.out ++ l) (sym none) ∙ c.loop-byte.invariant
