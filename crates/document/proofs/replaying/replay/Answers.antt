use Rattle.std.proofs.Common.{◌≡◌, ◌+◌, ◌<◌, ◌∷◌, [], ◌++◌, length, take, drop, get_or, set, sym, refl, ap, ◌∙◌, subst₂, arith, rules}
use Rattle.std.proofs.lemmas.List.{take_more, length-drop, take_more_set, drop-set-lt, drop_more, set-get_or}
use Rattle.std.proofs.lemmas.Grind.{drop_more_same}
use Rattle.std.specs.Slice.Iter.{iter_rest}
use Rattle.model.specs.Model.{Model}
use Rattle.editing.specs.Content.{scale_of}
use Rattle.document.specs.declared.call.Call.TheVariants.{Size}
use Rattle.document.specs.Content.{new_model}
use Rattle.document.specs.Snapshot.{seen}
use Rattle.document.specs.Log.{lent_by, New}
use Rattle.document.proofs.Replays.{Going, begins, goes_on, replayed}
use Rattle.document.proofs.replaying.replay.Goals.{else-loop-answer-test, then-loop-answer-test+in_default}
use Rattle.document.proofs.replaying.replay.Goals as goal

pub loop-answer-init : goal.loop-answer-init
loop-answer-init g c =
    let a = g.G.Grammar.meaning c.args.meter.now.first.grammar in
    let μ = scale_of g.G.Grammar.meaning g.H.Meter.scale c.args.meter.now in
    let made = c.new-document.ensures in
    let new : New (seen c.new-document.result c.args.desk.now) = record { not_opened = ap (λ (m : Model). m.usable) made.is; no_due = ap (λ (m : Model). m.due) made.is } in
    (begins a μ _ (seen c.new-document.result c.args.desk.now) made.is new, refl, (refl, (refl, refl)), c.iter-left.ensures.rest, omega arith)

pub loop-answer-preserved : goal.loop-answer-preserved
loop-answer-preserved g c =
    let a = g.G.Grammar.meaning c.args.meter.now.first.grammar in
    let μ = scale_of g.G.Grammar.meaning g.H.Meter.scale c.args.meter.now in
    let i = c.loop-answer.answer-index in
    let calls = c.args.calls.now in
    let answers = c.loop-answer.answers in
    let call = c.in-Some.call.now in
    let (so, rest, before, left, few) = c.loop-answer.invariant in
    let room : i < length answers = omega (arith, c.loop-answer-test.true, c.loop-answer.auto.answers) in
    let next : iter_rest c.loop-answer.left ≡ call ∷ iter_rest c.next.new.self = search rules in
    let ahead : drop i calls ≡ call ∷ iter_rest c.next.new.self = sym left ∙ next in
    let some : i < length calls = omega (arith, length-drop i calls, ap length ahead) in
    let split = sym ahead ∙ drop_more calls i Size some in
    let same : call ≡ get_or calls i Size = ap (λ l. get_or l 0 Size) split in
    let lent = c.perform.ensures.lent in (
      goes_on a μ _ (lent_by c.args.desk.now) (take i calls) (take i answers) _ _ so c.perform.ensures.law (take (i + 1) calls) (take_more calls i Size some ∙ ap (λ k. take i calls ++ (k ∷ [])) (sym same)) (take (i + 1) (set answers i c.perform.result)) (take_more_set answers i c.perform.result room),
      drop-set-lt (i + 1) answers i c.perform.result (omega arith) ∙ drop_more_same answers c.args.answers.now i rest,
      (lent.0 ∙ before.0, (lent.1.0 ∙ before.1.0, lent.1.1 ∙ before.1.1)),
      ap (drop 1) split,
      omega (arith, some),
    )

pub returns-clause-law : goal.returns-clause-law
returns-clause-law g c =
    let a = g.G.Grammar.meaning c.args.meter.now.first.grammar in
    let μ = scale_of g.G.Grammar.meaning g.H.Meter.scale c.args.meter.now in
    let i = c.loop-answer.answer-index in
    let calls = c.args.calls.now in
    let (so, rest, before, left, few) = c.loop-answer.invariant in
    let all : c.loop-answer.answer-index ≡ c.min.result = elim c.loop-answer-test.branch [
      | else-loop-answer-test w ↦ omega (arith, w.loop-answer-test.false, few, c.loop-answer.auto.answer-index-end, c.loop-answer-test.auto.answers, c.min.ensures)
      | then-loop-answer-test+in_default w ↦
          let none : length (iter_rest c.loop-answer.left) ≡ 0 = search rules in
          omega (arith, none, length-drop i calls, ap length left, few, c.loop-answer.auto.answer-index-end, c.loop-answer-test.auto.answers, c.min.ensures)
    ] in
    let same : c.loop-answer-test.answers ≡ c.loop-answer.answers = elim c.loop-answer-test.branch [
      | else-loop-answer-test w ↦ w.answers-is
      | then-loop-answer-test+in_default w ↦ w.answers-is ∙ set-get_or c.loop-answer.answers i _
    ] in
    let here = seen c.loop-answer.document c.loop-answer.desk in
    let made = new_model (length c.args.slots.now) (length c.args.store.now) (length c.args.readings.now) in
    replayed a μ made (lent_by c.args.desk.now) (take c.min.result calls) (take c.min.result c.loop-answer-test.answers) here
    (subst₂ (λ n answers. Going a μ made (lent_by c.args.desk.now) (take n calls) (take n answers) here) all (sym same) so)
