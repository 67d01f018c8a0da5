-- What a session tells of a range: the law stands on the contract of a function of src/laws.rt, so that it is proved.
use Rattle.std.specs.Prelude.{◌≡◌, ℕ, List, Some, None, Option}
use Rattle.std.specs.List.{between}
use Rattle.automaton.specs.Automaton.{Automaton, Lawful}
use Rattle.measure.specs.Blank.{blank_measure}
use Rattle.model.specs.Calls.{extent_refusal}
use Rattle.editing.specs.Content.{document_measure}
use Rattle.document.specs.Content.{model_of, text}
use Rattle.document.specs.Snapshot.{Snapshot}
use Rattle.report.specs.Summary.{summary, summary_line}
use Rattle.session.specs.Asked.{Range}
use Rattle.hosting.specs.Replies.{Readings, CarriesOut}

-- Where RANGE is not refused, what is written is the summary of the range as a text of its own.
abbrev pub RangeTellsItsText : Type 0
RangeTellsItsText =
    (a : Automaton) (from to : ℕ) (before after : Snapshot (Readings (Unit {0}))) (out : Option (List ℕ)) →
    Lawful a → CarriesOut a (document_measure a blank_measure) (Range from to) before after out →
    extent_refusal (model_of before.document) from to ≡ None →
    out ≡ Some (summary_line (summary a (between from to (text before.document))))
