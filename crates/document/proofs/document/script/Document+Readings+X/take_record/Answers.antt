use Rattle.std.proofs.Common.{◌≡◌, ℕ, ◌-◌, List, length, IfOk, OnErr, None, Result, sym, ap, ◌∙◌, subst}
use Rattle.std.proofs.lemmas.Result.{IfOk-at_ok}
use Rattle.model.specs.declared.change.Change.{Change}
use Rattle.model.specs.declared.refusal.Refusal.{Refusal}
use Rattle.model.specs.declared.replacement.Replacement.{Replacement}
use Rattle.model.specs.Calls.{answered, refusal_in, edited, paint_refusal}
use Rattle.model.specs.Model.{Model}
use Rattle.model.specs.Script.{part_of, record_refusal, RecordColoured}
use Rattle.tree.specs.declared.chunk_tree.ChunkTree.{ChunkTree}
use Rattle.tree.specs.Public.{KeptBy}
use Rattle.editing.specs.Content.{document_measure}
use Rattle.document.specs.Content.{model_of, Unchanged}
use Rattle.document.proofs.Scripting.{record_coloured}
use Rattle.document.proofs.Waiting.{record_done}
use Rattle.document.proofs.document.script.Document+Readings+X.take_record.Goals as goal

-- The due of a record's edit is painted.
painted : (r : Result (Unit {0}) Refusal) (cells : ℕ) (given : List ℕ) (m now : Model) (q : Replacement) (c : Change) → r ≡ answered (paint_refusal now c cells) tt → now ≡ edited m q.from q.to (part_of given q) c →
    None ≡ record_refusal cells given m q → c.removed ≡ q.to - q.from → c.inserted ≡ length (part_of given q) → r ≡ answered None tt
painted r cells given m now q c told is none removed inserted =
    told ∙ ap (λ (n : Model). answered (paint_refusal n c cells) tt) is ∙ ap (λ p. answered p tt) (record_done cells given m q c (sym none) removed inserted)

pub returns-clause-decides : goal.returns-clause-decides
returns-clause-decides g c =
    let self = c.args.self.now in
    let told = c.in_ok-change.ensures in
    ap refusal_in (painted c.try_paint.result (length c.args.screen.now) c.args.text.now (model_of self) _ c.args.replacement c.in_ok-change.change c.try_paint.ensures.answer told.after c.in_ok-may_take.ensures told.numbers.1.0 told.numbers.1.1) ∙ c.in_ok-may_take.ensures

pub returns-clause-keeps : goal.returns-clause-keeps
returns-clause-keeps g c kept =
    let a = g.G.Grammar.meaning c.args.meter.now.first.grammar in
    let μ = document_measure a (g.H.Meter.scale c.args.meter.now.second.second) in
    subst (λ (T : ChunkTree _). KeptBy T μ) (sym c.try_paint.ensures.tree) (c.in_ok-change.ensures.keeps kept)

pub returns-clause-same : goal.returns-clause-same
returns-clause-same g c =
    let self = c.args.self.now in
    let told = c.in_ok-change.ensures in
    subst (λ r. OnErr r (Unchanged self c.try_paint.new.self × (c.try_paint.new.screen ≡ c.args.screen.now)))
    (sym (painted c.try_paint.result (length c.args.screen.now) c.args.text.now (model_of self) _ c.args.replacement c.in_ok-change.change c.try_paint.ensures.answer told.after c.in_ok-may_take.ensures told.numbers.1.0 told.numbers.1.1)) tt

pub returns-clause-anyway : goal.returns-clause-anyway
returns-clause-anyway g c =
    let self = c.args.self.now in
    let given = c.args.text.now in
    let r = c.args.replacement in
    let change = c.in_ok-change.change in
    let told = c.in_ok-change.ensures in
    let ok = painted c.try_paint.result (length c.args.screen.now) given (model_of self) _ r change c.try_paint.ensures.answer told.after c.in_ok-may_take.ensures told.numbers.1.0 told.numbers.1.1 in
    let a = g.G.Grammar.meaning c.args.meter.now.first.grammar in
    let coloured = record_coloured a given (model_of self) r change c.args.screen.now c.try_paint.new.screen (model_of c.try_edit.new.self) told.after c.try_edit.new.self.fitting told.numbers.0 told.numbers.1.0 told.numbers.1.1 (IfOk-at_ok _ ok c.try_paint.ensures.anyway) in
    subst (λ o. IfOk o (λ _. RecordColoured a given (model_of self) r c.args.screen.now c.try_paint.new.screen)) (sym ok) coloured
