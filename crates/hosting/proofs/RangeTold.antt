-- What is written of a range is the summary of its bytes.
use Rattle.std.proofs.Common.{◌≡◌, Some, sym, ap, ◌∙◌}
use Rattle.std.specs.List.{between}
use Rattle.measure.specs.Blank.{blank_measure}
use Rattle.measure.specs.Measure.{reading}
use Rattle.editing.specs.Content.{document_measure}
use Rattle.document.specs.declared.call.Call.TheVariants as call
use Rattle.document.specs.declared.call.Answer.TheVariants as answer
use Rattle.document.specs.Content.{text}
use Rattle.document.specs.Log.{refusal_of, answer_done, reading_done, replied, left_by}
use Rattle.report.specs.Summary.{summary_line}
use Rattle.report.proofs.Summarized.{summarized_is}
use Rattle.hosting.specs.Replies.{written_of}
use Rattle.hosting.specs.Laws.{RangeTellsItsText}

pub range_told : RangeTellsItsText
range_told a from to before after out lawful c accepted =
    let μ = document_measure a blank_measure in
    let part = between from to (text before.document) in
    let k = call.Range from to in
    let written : c.entry.answer ≡ answer.Written =
    c.obeys.answer_is
    ∙ ap (λ k. replied (refusal_of a before k) (answer_done a before k)) c.is_call
    ∙ ap (λ r. replied r answer.Written) accepted in
    let read : after.reading ≡ reading μ part =
    sym (ap (λ s. s.reading) c.leaves)
    ∙ c.obeys.reading_is
    ∙ ap (λ k. left_by (refusal_of a before k) before.reading (reading_done μ before k)) c.is_call
    ∙ ap (λ r. left_by r before.reading (reading μ part)) accepted in
    c.writes
    ∙ ap (λ k. Some (written_of k c.entry.answer after.buffer after.reading)) c.is_call
    ∙ ap (λ told. Some (written_of k told after.buffer after.reading)) written
    ∙ ap (λ told. Some (summary_line told)) (summarized_is a part lawful blank_measure after.reading read)
