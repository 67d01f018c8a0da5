use Rattle.std.proofs.Common.{◌≡◌, ◌≤◌, length, take, None, arith}
use Rattle.std.specs.List.{between}
use Rattle.std.proofs.lemmas.List.{length-take-le}
use Rattle.automaton.specs.Walk.{colours}
use Rattle.automaton.proofs.Walk.{colours_length}
use Rattle.model.specs.Calls.{range_refusal}
use Rattle.std.proofs.lemmas.List.Edits.{length-between}
use Rattle.document.specs.Content.{model_of, text}
use Rattle.document.proofs.Obeying.{kept_within, coloured_within, range_room}
use Rattle.document.proofs.document.log.Document+Readings+X.colours_within.Goals as goal

pub returns-clause-written : goal.returns-clause-written
returns-clause-written g c =
    let d = c.args.self.now in
    let a = g.G.Grammar.meaning c.args.meter.now.first.grammar in
    let buffer = c.args.buffer.now in
    let cells = c.min-cells.result in
    let from = c.args.from in
    let to = c.args.to in
    let part = between from to (colours a (text d)) in
    let long = length-take-le cells buffer (omega arith) in
    let o = range_refusal (model_of d) from to (length (take cells buffer)) in
    let fits : o ≡ None → length part ≤ cells = λ e. let known = range_room (model_of d) from to (length (take cells buffer)) e in omega (arith, length-between (colours a (text d)) from to (omega (arith, known.0, colours_length a 0 (text d))), known.1, long) in
    kept_within o c.colours.result c.colours.ensures.answer _ part buffer c.colours.new.out cells fits c.colours.ensures.written

pub returns-clause-anyway : goal.returns-clause-anyway
returns-clause-anyway g c =
    let d = c.args.self.now in
    let a = g.G.Grammar.meaning c.args.meter.now.first.grammar in
    let buffer = c.args.buffer.now in
    let cells = c.min-cells.result in
    let from = c.args.from in
    let to = c.args.to in
    let long = length-take-le cells buffer (omega arith) in
    let o = range_refusal (model_of d) from to (length (take cells buffer)) in
    let fits : o ≡ None → length (between from to (text d)) ≤ cells = λ e. let known = range_room (model_of d) from to (length (take cells buffer)) e in omega (arith, length-between (text d) from to known.0, known.1, long) in
    coloured_within o c.colours.result c.colours.ensures.answer a (between from to (text d)) buffer c.colours.new.out cells fits c.colours.ensures.anyway
