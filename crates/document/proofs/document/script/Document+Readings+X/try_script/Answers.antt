use Rattle.std.proofs.Common.{◌≡◌, ℕ, ◌+◌, ◌<◌, ◌≤◌, true, false, List, length, is_ok, IfOk, OnErr, None, Ok, Err, Result, get_or, sym, refl, ap, ◌∙◌, arith}
use Rattle.editing.specs.Content.{document_measure}
use Rattle.std.proofs.lemmas.Bool.{false≢true}
use Rattle.model.specs.declared.refusal.Refusal.{Refusal}
use Rattle.model.specs.declared.replacement.Replacement.{Replacement}
use Rattle.model.specs.Calls.{refusal_in}
use Rattle.model.specs.Model.{Model}
use Rattle.model.specs.Script.{Scripted, record_refusal, scripted}
use Rattle.document.specs.declared.document.Document.{Document}
use Rattle.document.specs.Content.{model_of, Unchanged}
use Rattle.document.specs.Records.{CarriedInText}
use Rattle.document.proofs.Scripting.{Onward, onward_more, onward_refused, onward_done, coloured_more, stepped_more, by_steps}
use Rattle.document.proofs.document.script.Document+Readings+X.try_script.Goals as goal

abbrev nothing : Replacement
nothing = record { from = 0; to = 0; start = 0; end = 0 }

-- `map_err` says that it is refused where the record is: what is ensured of a record in both cases.
done : {P : Type 0} (r : Result (Unit {0}) Refusal) → is_ok r ≡ true → IfOk r (λ _. P) → P
done (Ok _) e p = p
done (Err _) e p = absurd (false≢true e)

not_refused : (r : Result (Unit {0}) Refusal) → is_ok r ≡ true → refusal_in r ≡ None
not_refused (Ok _) e = refl
not_refused (Err _) e = absurd (false≢true e)

-- The record that is refused: nothing was changed, and so many were done.
stopped : {R : Type 0} (r : Result (Unit {0}) Refusal) → is_ok r ≡ false → (now after : Document R) (screen screen_after : List ℕ) → OnErr r (Unchanged now after × (screen_after ≡ screen)) →
    (cells : ℕ) (given : List ℕ) (records : List Replacement) (i : ℕ) (first : Model) → i < length records → length screen ≡ cells → refusal_in r ≡ record_refusal (length screen) given (model_of now) (get_or records i nothing) →
    Onward cells given records i first (model_of now) → (Unchanged now after × (screen_after ≡ screen)) × ((scripted cells given first records).done ≡ i)
stopped (Ok _) e now after screen screen_after same cells given records i first some long told so = absurd (false≢true (sym e))
stopped (Err f) e now after screen screen_after same cells given records i first some long told so =
    let fails = ap (λ n. record_refusal n given (model_of now) (get_or records i nothing)) (sym long) ∙ sym told in
    let count : i + 0 ≡ i = omega arith in
    (same, ap (λ (s : Scripted). s.done) (onward_refused cells given records i (get_or records i nothing) nothing some refl first (model_of now) f so fails) ∙ count)

-- None was refused: all were done.
finished : (cells : ℕ) (given : List ℕ) (records : List Replacement) (i : ℕ) (first now : Model) → Onward cells given records i first now → length records ≤ i → (scripted cells given first records).done ≡ i
finished cells given records i first now so none =
    let count : i + 0 ≡ i = omega arith in
    ap (λ (s : Scripted). s.done) (onward_done cells given records i first now so none) ∙ count

pub loop-index-preserved : goal.loop-index-preserved
loop-index-preserved g c =
    let a = g.G.Grammar.meaning c.args.meter.now.first.grammar in
    let μ = document_measure a (g.H.Meter.scale c.args.meter.now.second.second) in
    let i = c.loop-index.index-counter in
    let records = c.args.records.now in
    let given = c.args.text.now in
    let screen = c.args.screen.now in
    let first = c.args.self.now in
    let r = get_or records i nothing in
    let told = c.take_record.ensures in
    let ok = sym c.in_ok-map_err.ensures.variant in
    let some : i < length records = omega arith in
    let long : length c.loop-index.screen ≡ length screen = c.loop-index.auto.screen in
    let none = sym told.decides ∙ not_refused c.take_record.result ok in
    let left = done c.take_record.result ok told.after in
    let coloured = done c.take_record.result ok told.anyway in
    let same = ap (λ n. record_refusal n given (model_of c.loop-index.self) r) (sym long) ∙ none in
    let (onward, steps, stepped) = c.loop-index.invariant in (
      onward_more (length screen) given records i r nothing some refl (model_of first) (model_of c.loop-index.self) (model_of c.take_record.new.self) onward same left,
      coloured_more a given records i r nothing some refl first screen c.loop-index.self c.loop-index.screen c.take_record.new.self c.take_record.new.screen none left coloured steps,
      λ kept. let s = stepped kept in
          stepped_more a given records i r nothing some refl first screen c.loop-index.self c.loop-index.screen c.take_record.new.self c.take_record.new.screen none left coloured μ long
          (done c.take_record.result ok told.painted s.kept) (told.keeps s.kept) s,
    )

pub returns-in_err-map_err-clause-anyway : goal.returns-in_err-map_err-clause-anyway
returns-in_err-map_err-clause-anyway g c buffer reading =
    let a = g.G.Grammar.meaning c.args.meter.now.first.grammar in
    let told = c.take_record.ensures in
    let (onward, steps, stepped) = c.loop-index.invariant in
    let stop = stopped c.take_record.result (sym c.in_err-map_err.ensures.variant) c.loop-index.self c.take_record.new.self c.loop-index.screen c.take_record.new.screen told.same (length c.args.screen.now) c.args.text.now c.args.records.now c.loop-index.index-counter (model_of c.args.self.now) (omega arith) c.loop-index.auto.screen told.decides onward in
    by_steps (CarriedInText a c.args.text.now) c.args.records.now c.args.text.now c.loop-index.index-counter c.args.self.now c.args.screen.now c.loop-index.self c.take_record.new.self c.loop-index.screen c.take_record.new.screen buffer reading steps stop.0.0 stop.0.1 stop.1

pub returns-in_err-map_err-clause-records : goal.returns-in_err-map_err-clause-records
returns-in_err-map_err-clause-records g c buffer reading kept =
    let told = c.take_record.ensures in
    let (onward, steps, stepped) = c.loop-index.invariant in
    let stop = stopped c.take_record.result (sym c.in_err-map_err.ensures.variant) c.loop-index.self c.take_record.new.self c.loop-index.screen c.take_record.new.screen told.same (length c.args.screen.now) c.args.text.now c.args.records.now c.loop-index.index-counter (model_of c.args.self.now) (omega arith) c.loop-index.auto.screen told.decides onward in
    by_steps _ c.args.records.now c.args.text.now c.loop-index.index-counter c.args.self.now c.args.screen.now c.loop-index.self c.take_record.new.self c.loop-index.screen c.take_record.new.screen buffer reading (stepped kept).steps stop.0.0 stop.0.1 stop.1

pub returns-clause-anyway : goal.returns-clause-anyway
returns-clause-anyway g c buffer reading =
    let a = g.G.Grammar.meaning c.args.meter.now.first.grammar in
    let (onward, steps, stepped) = c.loop-index.invariant in
    let all = finished (length c.args.screen.now) c.args.text.now c.args.records.now c.loop-index.index-counter (model_of c.args.self.now) (model_of c.loop-index.self) onward (omega arith) in
    by_steps (CarriedInText a c.args.text.now) c.args.records.now c.args.text.now c.loop-index.index-counter c.args.self.now c.args.screen.now c.loop-index.self c.loop-index.self c.loop-index.screen c.loop-index.screen buffer reading steps (refl, refl) refl all

pub returns-clause-records : goal.returns-clause-records
returns-clause-records g c buffer reading kept =
    let (onward, steps, stepped) = c.loop-index.invariant in
    let all = finished (length c.args.screen.now) c.args.text.now c.args.records.now c.loop-index.index-counter (model_of c.args.self.now) (model_of c.loop-index.self) onward (omega arith) in
    by_steps _ c.args.records.now c.args.text.now c.loop-index.index-counter c.args.self.now c.args.screen.now c.loop-index.self c.loop-index.self c.loop-index.screen c.loop-index.screen buffer reading (stepped kept).steps (refl, refl) refl all
