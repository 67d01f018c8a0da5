use Rattle.std.proofs.Common.{◌≡◌, ◌≤◌, length, take, None, arith}
use Rattle.std.specs.List.{between}
use Rattle.std.proofs.lemmas.List.{length-take-le}
use Rattle.model.specs.Calls.{range_refusal}
use Rattle.std.proofs.lemmas.List.Edits.{length-between}
use Rattle.document.specs.Content.{model_of, text}
use Rattle.document.proofs.Obeying.{written_within, range_room}
use Rattle.document.proofs.document.Document.text_within.Goals as goal

pub returns-clause-written : goal.returns-clause-written
returns-clause-written g c =
    let d = c.args.self.now in
    let buffer = c.args.buffer.now in
    let cells = c.min-cells.result in
    let from = c.args.from in
    let to = c.args.to in
    let part = between from to (text d) in
    let long = length-take-le cells buffer (omega arith) in
    let o = range_refusal (model_of d) from to (length (take cells buffer)) in
    let fits : o ≡ None → length part ≤ cells = λ e. let known = range_room (model_of d) from to (length (take cells buffer)) e in omega (arith, length-between (text d) from to known.0, known.1, long) in
    written_within o c.text.result c.text.ensures.answer part buffer c.text.new.out cells fits c.text.ensures.written
