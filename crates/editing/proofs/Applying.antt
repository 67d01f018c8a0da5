-- What comes in the place of a run, put together in a buffer; the numbers of an edit, and what it leaves.
use Rattle.std.proofs.Common.{◌≡◌, ℕ, ◌+◌, ◌-◌, ◌≤◌, Bool, true, cond, List, ◌++◌, length, take, drop, Some, None, sym, refl, ap, ◌∙◌, subst, append_assoc, arith}
use borrow.Rule.Slice.PartMut.{put_mid}
use Rattle.std.specs.List.{between}
use Rattle.std.proofs.lemmas.List.{length-append, length-take-le, length-drop, take_at}
use Rattle.std.proofs.lemmas.List.Edits.{length-between}
use Rattle.std.proofs.lemmas.Slice.{take-put_mid}
use Rattle.std.proofs.lemmas.Bool.{le-leb, and_from, cond-true}
use Rattle.automaton.specs.Automaton.{Automaton}
use Rattle.automaton.specs.Walk.{walk, state_before}
use Rattle.automaton.proofs.Walk.{walk_append}
use Rattle.chunks.specs.Cut.{joined, cut, replaced, needed}
use Rattle.slots.specs.Copy.{pasted}
use Rattle.model.specs.declared.run.Run.{Run}
use Rattle.model.specs.Edit.{edited_text, edited_chunks, affected, middle, middle_length}
use Rattle.model.specs.End.{apart, edit_end}
use Rattle.model.specs.Calls.{change_refusal}
use Rattle.model.proofs.Editing.{middle_long, edit_leaves_text, edited_count}
use Rattle.model.proofs.Ending.{edited_drop, edited_long}
use Rattle.model.proofs.Runs.{Covers, covers_affected}
use Rattle.tree.specs.declared.chunk_tree.ChunkTree.{ChunkTree}
use Rattle.tree.specs.declared.lent.Lent.{Lent}
use Rattle.tree.specs.Public.{chunks_now, usable_of, lent_to, copyable, replaceable}
use Rattle.editing.specs.Content.{text_in, model_in}
use Rattle.editing.specs.Applied.{Applied}
use Rattle.editing.proofs.Planning.{Allowed, was_allowed}

regroup : (two tail gap rest : List ℕ) (n : ℕ) → take n two ++ ((tail ++ gap) ++ rest) ≡ (take n two ++ tail) ++ (gap ++ rest)
regroup two tail gap rest n = simp append_assoc

-- A buffer in which a head was written at the front, then a middle behind it, then a tail behind that.
pub three_parts : (out head mid tail one : List ℕ) (h m : ℕ) → length head ≡ h → length mid ≡ m → h + (m + length tail) ≤ length out →
    one ≡ head ++ drop h out → (two part : List ℕ) → two ≡ put_mid h m one mid → part ≡ tail ++ drop (length tail) (drop (h + m) two) →
    (k : ℕ) → (three : List ℕ) → three ≡ put_mid (h + m) k two part → take (h + m + length tail) three ≡ head ++ (mid ++ tail)
three_parts out head mid tail one h m lh lm room e1 two part e2 ep k three e3 =
    let long1 : length one ≡ length out = ap length e1 ∙ length-append head (drop h out) ∙ omega (arith, length-drop h out) in
    let gap = drop (length tail) (drop (h + m) two) in
    let rest = drop k (drop (h + m) two) in
    let front1 : take h one ≡ head = ap (take h) e1 ∙ take_at head (drop h out) h lh in
    let front2 : take (h + m) two ≡ head ++ mid = ap (take (h + m)) e2 ∙ take-put_mid h m one mid (h + m) (omega arith) (omega arith) ∙ ap (λ l. l ++ mid) front1 in
    let both : length (head ++ mid) ≡ h + m = length-append head mid ∙ omega arith in
    let shape : three ≡ (take (h + m) two ++ tail) ++ (gap ++ rest) = e3 ∙ ap (put_mid (h + m) k two) ep ∙ regroup two tail gap rest (h + m) in
    let whole : three ≡ (head ++ (mid ++ tail)) ++ (gap ++ rest) = shape ∙ ap (λ l. (l ++ tail) ++ (gap ++ rest)) front2 ∙ ap (λ l. l ++ (gap ++ rest)) (append_assoc head mid tail) in
    ap (take (h + m + length tail)) whole ∙ take_at (head ++ (mid ++ tail)) (gap ++ rest) (h + m + length tail) (length-append head (mid ++ tail) ∙ omega (arith, length-append mid tail))

-- A range of the text copied to the front of a buffer that has room for it.
pub copied_front : {R : Type 0} (T : ChunkTree R) (from to : ℕ) (out after : List ℕ) (r : Bool) → r ≡ copyable T from to out → after ≡ cond r (pasted out 0 (between from to (text_in T))) out →
    from ≤ to → to ≤ length (text_in T) → to - from ≤ length out → after ≡ between from to (text_in T) ++ drop (to - from) out
copied_front T from to out after r answer is forward inside room =
    let part = between from to (text_in T) in
    let can : r ≡ true = answer ∙ and_from _ _ (le-leb from to forward) (and_from _ _ (le-leb to (length (text_in T)) inside) (le-leb (to - from) (length out) room)) in
    let long : 0 + length part ≡ to - from = omega (arith, length-between (text_in T) from to inside) in
    is ∙ cond-true r (pasted out 0 part) out can ∙ ap (λ n. part ++ drop n out) long

-- The state behind the new bytes.
pub state_behind : (a : Automaton) (text : List ℕ) (from to : ℕ) (new : List ℕ) → from ≤ length text → state_before a (edited_text text from to new) (from + length new) ≡ walk a (state_before a text from) new
state_behind a text from to new inside =
    let long : length (take from text ++ new) ≡ from + length new = length-append (take from text) new ∙ ap (λ n. n + length new) (length-take-le from text inside) in
    ap (walk a 0) (ap (take (from + length new)) (sym (append_assoc (take from text) new (drop to text))) ∙ take_at (take from text ++ new) (drop to text) (from + length new) long)
    ∙ walk_append a 0 (take from text) new

-- The end of an edit, from the states and the search in the text after it.
pub end_told : (a : Automaton) (text : List ℕ) (from to : ℕ) (new after : List ℕ) (s t passed : ℕ) → from ≤ to → to ≤ length text → after ≡ edited_text text from to new →
    s ≡ state_before a text to → t ≡ walk a (state_before a text from) new → passed ≡ apart a s t (drop (from + length new) after) → from + length new + passed ≡ edit_end a text from to new
unfolding edit_end
end_told a text from to new after s t passed forward inside is old now-in far =
    let tail : drop (from + length new) after ≡ drop to text = ap (drop (from + length new)) is ∙ edited_drop text from to new forward inside in
    let state : t ≡ state_before a (edited_text text from to new) (from + length new) = now-in ∙ sym (state_behind a text from to new (omega arith)) in
    ap (λ n. from + length new + n) (far ∙ ap (λ l. apart a s t l) tail ∙ ap (λ x. apart a x t (drop to text)) old ∙ ap (λ x. apart a (state_before a text to) x (drop to text)) state)

module _ {R : Type 0} (T : ChunkTree R) (from to : ℕ) (new : List ℕ) (passes : change_refusal (model_in T None) from to new ≡ None) where
  lawful : Allowed (model_in T None) from to new
  lawful = was_allowed (model_in T None) from to new passes

  pub forward : from ≤ to
  forward = lawful.forward

  pub inside : to ≤ length (text_in T)
  inside = lawful.inside

  pub few_bytes : length new ≤ 1024
  few_bytes = lawful.few_bytes

  -- The run can be replaced, and the chunks then are the edit's.
  module _ (run : Run) (is : run ≡ affected (chunks_now T) from to (length new)) where
    pub covers : Covers (chunks_now T) from to run
    covers = subst (Covers (chunks_now T) from to) (sym is) (covers_affected (chunks_now T) from to forward inside (length new))

    module _ (bytes : List ℕ) (are : bytes ≡ middle (text_in T) run from to new) where
      long : length bytes ≡ middle_length run from to (length new)
      long = let low = forward in let high = inside in ap length are ∙ middle_long (text_in T) run from to new (omega arith) covers.within

      pub can_replace : replaceable T run.first run.last bytes ≡ true
      can_replace =
          let count = edited_count (chunks_now T) from to new forward inside in
          let first = ap (λ (r : Run). r.first) is in
          let last = ap (λ (r : Run). r.last) is in
          let size : needed (length bytes) ≡ needed (middle_length (affected (chunks_now T) from to (length new)) from to (length new)) = ap needed (long ∙ ap (λ (r : Run). middle_length r from to (length new)) is) in
          and_from _ _ (le-leb run.first run.last covers.ordered) (and_from _ _ (le-leb run.last (length (chunks_now T)) covers.known) (le-leb _ _ (omega (arith, count, first, last, size, lawful.few_chunks))))

      pub replaced_is : replaced run.first run.last (cut bytes) (chunks_now T) ≡ edited_chunks (chunks_now T) from to new
      unfolding edited_chunks
      replaced_is =
          ap (λ l. replaced run.first run.last (cut l) (chunks_now T)) are
          ∙ ap (λ (r : Run). replaced r.first r.last (cut (middle (text_in T) r from to new)) (chunks_now T)) is

  -- What the edit leaves.
  module _ (after : ChunkTree R) (chunks : chunks_now after ≡ edited_chunks (chunks_now T) from to new) where
    pub text_after : text_in after ≡ edited_text (text_in T) from to new
    text_after = ap joined chunks ∙ edit_leaves_text (chunks_now T) from to new forward inside

    pub text_long : length (text_in after) ≡ from + length new + (length (text_in T) - to)
    text_long = ap length text_after ∙ edited_long (text_in T) from to new forward inside

    -- The end of the change is a place of the text after it, so it is small.
    pub end_small : length (text_in T) ≤ 262144 → (passed : ℕ) → passed ≤ length (drop (from + length new) (text_in after)) → from + length new + passed ≤ 263168
    end_small small passed within = let all = text_long in let low = forward in let high = inside in let few = few_bytes in omega (arith, length-drop (from + length new) (text_in after))

    pub applied : usable_of after ≡ usable_of T → lent_to after ≡ lent_to T → (passed : ℕ) → passed ≤ length (drop (from + length new) (text_in after)) → Applied T from to new after (record { place = from; removed = to - from; inserted = length new; end = from + length new + passed })
    applied usable lent passed within =
        let rest = length-drop (from + length new) (text_in after) in
        let all = text_long in
        record {
          place_is = refl;
          removed_is = refl;
          inserted_is = refl;
          fitting = and_from _ _ (le-leb (from + length new) (from + length new + passed) (omega arith)) (le-leb (from + length new + passed) (length (text_in after)) (omega arith));
          leaves = λ z. record {
            slots = ap (λ (l : Lent). l.slots) lent z;
            store = ap (λ (l : Lent). l.store) lent z;
            readings = ap (λ (l : Lent). l.readings) lent z;
            usable = usable z;
            chunks = chunks z;
            due = Some (record { place = from; removed = to - from; inserted = length new; end = from + length new + passed });
          };
        }
