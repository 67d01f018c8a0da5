-- A document that was not opened has no chunks; opening one leaves none.
use Rattle.std.proofs.Common.{◌≡◌, ℕ, ◌*◌, ◌≤◌, true, ◌&&◌, eqb, ltb, leb, [], length, None, Option, sym, ap, ◌∙◌, arith}
use Rattle.std.proofs.lemmas.List.{length-map, nil_from_length}
use Rattle.std.proofs.lemmas.Bool.{and_from, and_parts, le-leb, leb-true, eq-eqb, eqb-true}
use Rattle.chunks.specs.Tree.{slots}
use Rattle.chunks.specs.Cut.{joined}
use Rattle.chunks.proofs.Footprint.{few_below}
use Rattle.slots.specs.View.{chunk_of}
use Rattle.slots.specs.Sound.{tree_of}
use Rattle.slots.proofs.Reading.{whole_sound}
use Rattle.measure.specs.Place.{line_ends}
use Rattle.model.specs.declared.change.Change.{Change}
use Rattle.model.specs.declared.refusal.Refusal.TheVariants.{OpenedBefore, SlotCount, LentLength, UnusableGrammar}
use Rattle.model.specs.Calls.{unless, open_refusal, due_fits}
use Rattle.model.specs.Model.{Model}
use Rattle.tree.specs.declared.chunk_tree.ChunkTree.{ChunkTree}
use Rattle.tree.specs.Public.{chunks_now, usable_of, lent_to, preparable}
use Rattle.editing.specs.Content.{text_in, model_in}
use Rattle.editing.proofs.Planning.{passed}

pub none_usable : {R : Type 0} (T : ChunkTree R) → usable_of T ≡ 0 → chunks_now T ≡ []
none_usable T none =
    let m = T.memory in
    let t = tree_of m T.root in
    let whole = whole_sound m T.root T.sound in
    nil_from_length (chunks_now T) (omega (arith, length-map (slots t) (chunk_of m), few_below m.usable (slots t) (λ j. omega (arith, whole.all j))))

-- What is known where OPEN is not refused.
pub record Openable (m : Model) : Type 0 where
  pub not_opened : m.usable ≡ 0
  pub some_slot : 1 ≤ m.slots
  pub few_slots : m.slots ≤ 4096
  pub store_fits : m.store ≡ 64 * m.slots
  pub readings_fit : m.readings ≡ m.slots

pub openable : (m : Model) (states : ℕ) → open_refusal m states ≡ None → Openable m
openable m states e =
    let five = unless (ltb 0 states) UnusableGrammar None in
    let four = unless (eqb m.readings m.slots) (LentLength m.readings) five in
    let three = unless (eqb m.store (64 * m.slots)) (LentLength m.store) four in
    let two = unless (leb 1 m.slots && leb m.slots 4096) (SlotCount m.slots) three in
    let a = passed (eqb m.usable 0) OpenedBefore two e in
    let b = passed (leb 1 m.slots && leb m.slots 4096) (SlotCount m.slots) three a.1 in
    let c = passed (eqb m.store (64 * m.slots)) (LentLength m.store) four b.1 in
    let d = passed (eqb m.readings m.slots) (LentLength m.readings) five c.1 in
    let range = and_parts (leb 1 m.slots) (leb m.slots 4096) b.0 in
    record {
      not_opened = eqb-true m.usable 0 a.0;
      some_slot = leb-true 1 m.slots range.0;
      few_slots = leb-true m.slots 4096 range.1;
      store_fits = eqb-true m.store (64 * m.slots) c.0;
      readings_fit = eqb-true m.readings m.slots d.0;
    }

module _ {R : Type 0} (T : ChunkTree R) (due : Option Change) (states : ℕ) (passes : open_refusal (model_in T due) states ≡ None) where
  known : Openable (model_in T due)
  known = openable (model_in T due) states passes

  pub few_slots : (lent_to T).slots ≤ 4096
  few_slots = known.few_slots

  pub can_prepare : preparable T (lent_to T).slots ≡ true
  can_prepare =
      let k = known in
      and_from _ _ (eq-eqb (usable_of T) 0 k.not_opened)
      (and_from _ _ (le-leb 1 (lent_to T).slots k.some_slot)
      (and_from _ _ (le-leb (lent_to T).slots 4096 k.few_slots)
      (and_from _ _ (le-leb (lent_to T).slots (lent_to T).slots (omega arith))
      (and_from _ _ (le-leb (lent_to T).slots (lent_to T).readings (omega (arith, k.readings_fit))) (le-leb (64 * (lent_to T).slots) (lent_to T).store (omega (arith, k.store_fits)))))))

  -- There is no line end, as there was none.
  pub still_counted : (after : ChunkTree R) (lines : ℕ) → chunks_now after ≡ [] → lines ≡ line_ends (text_in T) → lines ≡ line_ends (text_in after)
  still_counted after lines none counted = counted ∙ sym (ap (λ cs. line_ends (joined cs)) (none ∙ sym (none_usable T known.not_opened)))

  -- A due that stood fits the text as before: both are empty.
  pub still_fits : (after : ChunkTree R) → chunks_now after ≡ [] → due_fits due (length (text_in T)) ≡ true → due_fits due (length (text_in after)) ≡ true
  still_fits after none fit = ap (λ cs. due_fits due (length (joined cs))) (none ∙ sym (none_usable T known.not_opened)) ∙ fit
