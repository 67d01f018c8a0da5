use Rattle.std.proofs.Common.{◌≡◌, ℕ, length, replicate, refl, ap, ◌∙◌}
use Rattle.std.proofs.lemmas.List.{length-replicate}
use Rattle.std.proofs.lemmas.Result.{IfOk-weaker}
use Rattle.editing.specs.Content.{document_measure}
use Rattle.measure.specs.Blank.{blank_measure}
use Rattle.document.specs.Content.{model_of, new_model}
use Rattle.document.proofs.Replays.{kept_none}
use Rattle.model.specs.Model.{Model}
use Rattle.hosting.specs.Hosted.{Hosted, slots_lent, store_lent, readings_lent, model_lent, cells_lent, most_cells}
use Rattle.hosting.proofs.room.SessionWork.run.Goals as goal

new_models : {slots slots' store store' readings readings' : ℕ} → slots ≡ slots' → store ≡ store' → readings ≡ readings' → new_model slots store readings ≡ new_model slots' store' readings'
new_models {slots} {slots'} {store} {store'} {readings} {readings'} p q r =
    ap (λ n. new_model n store readings) p ∙ ap (λ n. new_model slots' n readings) q ∙ ap (λ n. new_model slots' store' n) r

pub returns : goal.returns
returns g c =
    let o = c.args.self.now.options.now in
    let a = g.G.Grammar.meaning c.document_meter-meter.result.first.grammar in
    let μ = document_measure a blank_measure in
    let document = c.new-document.result in
    let room = c.in_ok-room.ensures in
    let slots : length c.deref_mut.result.now ≡ slots_lent o = ap length (c.deref_mut.ensures.value ∙ room.slots_are) ∙ length-replicate _ _ ∙ c.slots.ensures.is in
    let store : length c.deref_mut-2.result.now ≡ store_lent o = ap length (c.deref_mut-2.ensures.value ∙ room.store_is) ∙ length-replicate _ _ ∙ c.store.ensures in
    let readings : length c.deref_mut-3.result.now ≡ readings_lent o = ap length (c.deref_mut-3.ensures.value ∙ room.readings_are) ∙ length-replicate _ _ ∙ c.readings.ensures in
    let made : model_of document ≡ model_lent o = c.new-document.ensures.is ∙ new_models slots store readings in
    let zeros : c.in_ok-screen.screen.items ≡ replicate c.screen.result 0 = search (c.in_ok-screen.ensures.items_if_clones_equal (λ y e. e)) in
    let cells : c.screen.result ≡ cells_lent o = c.screen.ensures in
    let screen : c.deref_mut-4.result.now ≡ replicate (cells_lent o) 0 = c.deref_mut-4.ensures.value ∙ zeros ∙ ap (λ n. replicate n 0) cells in
    let buffer : c.deref_mut-5.result.now ≡ replicate most_cells 0 = c.deref_mut-5.ensures.value ∙ c.in_ok-buffer.ensures.items_if_clones_equal (λ y e. e) in
    let kept = kept_none document.tree (ap (λ (m : Model). m.usable) made) μ in (
      refl,
      refl,
      rw (← c.document_meter-meter.ensures.grammar) (IfOk-weaker c.converse.result _ (Hosted o a _ _ _) (λ readable so. record {
        first = record { document = document; screen = c.deref_mut-4.result.now; buffer = c.deref_mut-5.result.now; reading = _ };
        last = _;
        is_new = record { not_opened = ap (λ (m : Model). m.usable) made; no_due = ap (λ (m : Model). m.due) made };
        document_is = made;
        screen_is = screen;
        buffer_is = buffer;
        reading_is = refl;
        conversation = so;
      }) (c.converse.ensures.conversed kept)),
    )
