-- The end of an edit is the first place where the walks share a state.
use Rattle.std.proofs.Common.{◌≡◌, ℕ, zero, suc, ◌+◌, ◌-◌, ◌<◌, ◌≤◌, eqb, ◌⊎◌, List, [], ◌∷◌, ◌++◌, length, take, drop, sym, refl, ap, ◌∙◌, subst, inl, inr, ⊎_elim, arith, take-add}
use Rattle.std.proofs.lemmas.List.{length-append, length-drop, length-take-le, drop_at, append_assoc}
use Rattle.std.proofs.lemmas.Bool.{cases_eq, cond-true, cond-false, eq-eqb, ne_eqb, and_from, le-leb}
use Rattle.automaton.specs.Automaton.{Automaton}
use Rattle.automaton.specs.Walk.{walk, state_before}
use Rattle.automaton.proofs.Walk.{walk_append}
use Rattle.model.specs.Edit.{edited_text}
use Rattle.model.specs.End.{apart, edit_end, edit_change, EndsFirst}
use Rattle.model.specs.Laws.{EditEndsFirst, ChangesFit}

-- Two walks from s and t through bytes: they differ up to d, and share a state there, unless the bytes end.
pub record PartsUntil (a : Automaton) (s t : ℕ) (bytes : List ℕ) (d : ℕ) : Type 0 where
  pub within : d ≤ length bytes
  pub differ : (i : ℕ) → i < d → walk a s (take i bytes) ≡ walk a t (take i bytes) → ⊥
  pub meet : (d ≡ length bytes) ⊎ (walk a s (take d bytes) ≡ walk a t (take d bytes))

pub apart_parts : (a : Automaton) (s t : ℕ) (bytes : List ℕ) → PartsUntil a s t bytes (apart a s t bytes)
apart_parts a s t [] = record { within = omega arith; differ = λ i h e. omega arith; meet = inl refl }
apart_parts a s t (b ∷ bytes) =
    ⊎_elim
    (λ e. let none : 0 ≡ apart a s t (b ∷ bytes) = sym (cond-true (eqb s t) 0 (suc (apart a (a.step s b) (a.step t b) bytes)) (eq-eqb s t e)) in
    subst (PartsUntil a s t (b ∷ bytes)) none (record { within = omega arith; differ = λ i h z. omega arith; meet = inr e }))
    (λ ne. let d = apart a (a.step s b) (a.step t b) bytes in
    let more : suc d ≡ apart a s t (b ∷ bytes) = sym (cond-false (eqb s t) 0 (suc d) (ne_eqb s t ne)) in
    let rest = apart_parts a (a.step s b) (a.step t b) bytes in
    subst (PartsUntil a s t (b ∷ bytes)) more (record { within = omega (arith, rest.within); differ = later a s t b bytes d ne rest.differ; meet = ⊎_elim (λ e. inl (ap suc e)) (λ e. inr e) rest.meet }))
    (cases_eq s t)
  where
    later : (a : Automaton) (s t b : ℕ) (bytes : List ℕ) (d : ℕ) → (s ≡ t → ⊥) → ((i : ℕ) → i < d → walk a (a.step s b) (take i bytes) ≡ walk a (a.step t b) (take i bytes) → ⊥) → (i : ℕ) → i < suc d → walk a s (take i (b ∷ bytes)) ≡ walk a t (take i (b ∷ bytes)) → ⊥
    later a s t b bytes d ne differ zero h = ne
    later a s t b bytes d ne differ (suc i) h = differ i (omega arith)

-- The state some bytes behind a place.
pub state_further : (a : Automaton) (text : List ℕ) (m i : ℕ) → state_before a text (m + i) ≡ walk a (state_before a text m) (take i (drop m text))
state_further a text m i = ap (walk a 0) (take-add m i text) ∙ walk_append a 0 (take m text) (take i (drop m text))

-- Behind the new bytes the edited text is the old text behind the range.
module _ (text : List ℕ) (from to : ℕ) (new : List ℕ) (forward : from ≤ to) (inside : to ≤ length text) where
  front_long : length (take from text ++ new) ≡ from + length new
  front_long = length-append (take from text) new ∙ ap (λ n. n + length new) (length-take-le from text (omega arith))

  pub edited_drop : drop (from + length new) (edited_text text from to new) ≡ drop to text
  edited_drop = ap (drop (from + length new)) (sym (append_assoc (take from text) new (drop to text))) ∙ drop_at (take from text ++ new) (drop to text) (from + length new) front_long

  pub edited_long : length (edited_text text from to new) ≡ from + length new + (length text - to)
  edited_long =
      ap length (sym (append_assoc (take from text) new (drop to text)))
      ∙ length-append (take from text ++ new) (drop to text)
      ∙ ap (λ n. n + length (drop to text)) front_long
      ∙ ap (λ n. from + length new + n) (length-drop to text)

  -- The two walks some bytes behind the edit.
  pub new_state : (a : Automaton) (i : ℕ) → state_before a (edited_text text from to new) (from + length new + i) ≡ walk a (state_before a (edited_text text from to new) (from + length new)) (take i (drop to text))
  new_state a i = state_further a (edited_text text from to new) (from + length new) i ∙ ap (λ l. walk a (state_before a (edited_text text from to new) (from + length new)) (take i l)) edited_drop

  pub ends_first : (a : Automaton) → EndsFirst a text (edited_text text from to new) (edit_change a text from to new)
  unfolding edit_end
  ends_first a =
      let after = edited_text text from to new in
      let n = from + length new in
      let s = state_before a text to in
      let t = state_before a after n in
      let tail = drop to text in
      let d = apart a s t tail in
      let parts = apart_parts a s t tail in
      let long = edited_long in
      let rest = length-drop to text in
      let shift : (i : ℕ) → n + i + (to - from) - length new ≡ to + i = λ i. omega arith in
      let old : (i : ℕ) → state_before a text (n + i + (to - from) - length new) ≡ walk a s (take i tail) = λ i. ap (state_before a text) (shift i) ∙ state_further a text to i in
      record {
        behind = omega arith;
        within = omega (arith, parts.within);
        apart_before = λ p low high e.
            let i = p - n in
            let is : n + i ≡ p = omega arith in
            let there : state_before a after p ≡ walk a t (take i tail) = ap (state_before a after) (sym is) ∙ new_state a i in
            let here : state_before a text (p + (to - from) - length new) ≡ walk a s (take i tail) = ap (λ q. state_before a text (q + (to - from) - length new)) (sym is) ∙ old i in
            parts.differ i (omega arith) (sym here ∙ sym e ∙ there);
        meets = ⊎_elim (λ e. inl (omega arith)) (λ e. inr (new_state a d ∙ sym e ∙ sym (old d))) parts.meet;
      }

pub edit_ends_first : EditEndsFirst
edit_ends_first a text from to new forward inside = ends_first text from to new forward inside a

-- What comes first is within the text.
pub changes_fit : ChangesFit
changes_fit a text from to new forward inside =
    let e = ends_first text from to new forward inside a in
    and_from _ _ (le-leb _ _ e.behind) (le-leb _ _ e.within)
