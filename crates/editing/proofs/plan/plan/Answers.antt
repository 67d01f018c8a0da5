use Rattle.std.proofs.lemmas.List.Elements.{recursion_from_All}
use Rattle.chunks.specs.Cut.{Chunk}
use Rattle.std.proofs.Common.{◌≡◌, ◌+◌, ◌-◌, ◌≤◌, length, None, Ok, Err, sym, ap, ◌∙◌, subst, arith}
use Rattle.model.specs.Edit.{edited_chunks, affected, middle_length}
use Rattle.model.specs.declared.refusal.Refusal.TheVariants.{TooManyChunks}
use Rattle.model.specs.Calls.{answered}
use Rattle.model.proofs.Runs.{short_middle}
use Rattle.tree.specs.Public.{chunks_now}
use Rattle.editing.specs.Content.{model_in}
use Rattle.editing.proofs.Planning.{chunks_refused, allowed, count_told}
use Rattle.editing.proofs.plan.plan.Goals as goal

pub returns-then-chunks-usable-clause-is : goal.returns-then-chunks-usable-clause-is
returns-then-chunks-usable-clause-is g c =
    let range = c.in_ok-in_text.ensures in
    let chunks = chunks_now c.args.tree.now in
    let new = c.args.bytes.now in
    let count : c.chunks.result - (c.affected-run.result.last - c.affected-run.result.first) + c.div_ceil.result ≡ length (edited_chunks chunks c.args.from c.args.to new) = count_told chunks c.args.from c.args.to new c.affected-run.result c.affected-run.ensures range.forward range.inside _ c.middle_length_of.result _ c.chunks.ensures.is c.middle_length_of.ensures (omega (arith, c.div_ceil.ensures)) in
    let refused = chunks_refused (model_in c.args.tree.now None) c.args.from c.args.to new range.forward range.inside (omega arith) (omega arith) in
    ap (λ n. Err (TooManyChunks n)) count ∙ sym (ap (λ o. answered o (affected chunks c.args.from c.args.to (length new))) refused)

pub returns-clause-is : goal.returns-clause-is
returns-clause-is g c =
    let range = c.in_ok-in_text.ensures in
    let chunks = chunks_now c.args.tree.now in
    let new = c.args.bytes.now in
    let count : c.chunks.result - (c.affected-run.result.last - c.affected-run.result.first) + c.div_ceil.result ≡ length (edited_chunks chunks c.args.from c.args.to new) = count_told chunks c.args.from c.args.to new c.affected-run.result c.affected-run.ensures range.forward range.inside _ c.middle_length_of.result _ c.chunks.ensures.is c.middle_length_of.ensures (omega (arith, c.div_ceil.ensures)) in
    let passes = allowed (model_in c.args.tree.now None) c.args.from c.args.to new (record { forward = range.forward; inside = range.inside; few_bytes = omega arith; few_chunks = omega arith }) in
    ap Ok c.affected-run.ensures ∙ sym (ap (λ o. answered o (affected chunks c.args.from c.args.to (length new))) passes)

pub returns-clause-short : goal.returns-clause-short
returns-clause-short g c =
    let range = c.in_ok-in_text.ensures in
    let chunks = chunks_now c.args.tree.now in
    let new = c.args.bytes.now in
    let short = short_middle chunks c.args.from c.args.to range.forward range.inside (recursion_from_All Chunk _ c.chunks.ensures.chunked) (length new) in
    subst (λ r. middle_length r c.args.from c.args.to (length new) ≤ 1152) (sym c.affected-run.ensures) (omega (arith, short))
