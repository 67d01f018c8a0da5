-- The line that is written as an answer.
use Rattle.std.specs.Prelude.{ℕ, Bool, cond, List, [], ◌++◌, Some, None, Option, codes, decimal}
use Rattle.brackets.specs.declared.partner.Partner.{Partner}
use Rattle.model.specs.declared.change.Change.{Change}
use Rattle.model.specs.declared.refusal.Refusal.{Refusal}
use Rattle.model.specs.declared.refusal.Layer.{Layer}
use Rattle.model.specs.declared.refusal.Layer.TheVariants as layers
use Rattle.model.specs.Refusal.{number, layer, place}
use Rattle.document.specs.declared.document.script.RecordRefusal.{RecordRefusal}
use Rattle.document.specs.declared.call.Answer.{Answer}
use Rattle.document.specs.declared.call.Answer.TheVariants as answer

abbrev pub due_line : Change → List ℕ
due_line c = codes "due " ++ (decimal c.place ++ (codes " " ++ (decimal c.removed ++ (codes " " ++ (decimal c.inserted ++ (codes " " ++ decimal c.end))))))

abbrev pub layer_name : Layer → List ℕ
layer_name layers.Tree = codes "tree"
layer_name layers.Document = codes "document"
layer_name layers.Script = codes "script"

-- The number of a refusal, its layer and its place.
abbrev pub refusal_words : Refusal → List ℕ
refusal_words r = decimal (number r) ++ (codes " " ++ (layer_name (layer r) ++ (codes " " ++ decimal (place r))))

abbrev pub refused_line : Refusal → List ℕ
refused_line r = codes "refused " ++ refusal_words r

-- A script tells in front which of its records was refused, counted from 0.
abbrev pub record_refused_line : RecordRefusal → List ℕ
record_refused_line r = codes "refused " ++ (decimal r.index ++ (codes " " ++ refusal_words r.refusal))

abbrev pub yes_or_no : Bool → List ℕ
yes_or_no b = cond b (codes "yes") (codes "no")

abbrev pub partner_line : Option Partner → List ℕ
partner_line None = codes "none"
partner_line (Some p) = decimal p.place ++ (codes " " ++ cond p.agree (codes "agree") (codes "differ"))

-- What was written to the buffer or to the lent reading is shown elsewhere.
abbrev pub answer_line : Answer → List ℕ
answer_line answer.Closed = codes "closed"
answer_line answer.Pass = codes "pass"
answer_line (answer.Due change) = due_line change
answer_line (answer.Done records) = codes "done " ++ decimal records
answer_line (answer.RecordRefused refusal) = record_refused_line refusal
answer_line answer.Written = []
answer_line (answer.Size bytes chunks height) = decimal bytes ++ (codes " " ++ (decimal chunks ++ (codes " " ++ decimal height)))
answer_line (answer.Begins begins) = yes_or_no begins
answer_line (answer.Position line column) = decimal line ++ (codes " " ++ decimal column)
answer_line (answer.Spot place) = decimal place
answer_line (answer.Partner partner) = partner_line partner
answer_line (answer.Refused refusal) = refused_line refusal
