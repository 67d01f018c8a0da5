-- Painting an edit: the screen then shows the new text.
use Rattle.std.proofs.Common.{◌≡◌, ℕ, zero, suc, ◌+◌, ◌-◌, ◌≤◌, List, [], ◌∷◌, ◌++◌, length, take, drop, sym, refl, ap, ◌∙◌, ⊎_elim, append_assoc, arith}
use Rattle.std.specs.List.{between}
use Rattle.std.proofs.lemmas.List.{length-append, length-drop, length-take-le, take-take, take_at, take-append-drop, drop_all, drop-drop, take-append-le}
use Rattle.std.proofs.lemmas.Slice.{between_is}
use Rattle.automaton.specs.Automaton.{Automaton}
use Rattle.automaton.specs.Walk.{walk, colours_from, colours, state_before}
use Rattle.automaton.proofs.Walk.{colours_length}
use Rattle.model.specs.declared.change.Change.{Change}
use Rattle.model.specs.Edit.{edited_text}
use Rattle.model.specs.End.{edit_change, EndsFirst}
use Rattle.model.specs.Paint.{length_before, painted}
use Rattle.model.specs.Laws.{ShowsText, PaintingShowsText}
use Rattle.model.proofs.Editing.{between_drop}
use Rattle.model.proofs.Ending.{edited_drop, edited_long, ends_first}

pub take_colours : (a : Automaton) (s i : ℕ) (xs : List ℕ) → take i (colours_from a s xs) ≡ colours_from a s (take i xs)
take_colours a s zero xs = refl
take_colours a s (suc i) [] = refl
take_colours a s (suc i) (b ∷ xs) = ap (λ l. a.class s b ∷ l) (take_colours a (a.step s b) i xs)

pub drop_colours : (a : Automaton) (s i : ℕ) (xs : List ℕ) → drop i (colours_from a s xs) ≡ colours_from a (walk a s (take i xs)) (drop i xs)
drop_colours a s zero xs = refl
drop_colours a s (suc i) [] = refl
drop_colours a s (suc i) (b ∷ xs) = drop_colours a (a.step s b) i xs

module _ (a : Automaton) (text : List ℕ) (from to : ℕ) (new screen : List ℕ) (forward : from ≤ to) (inside : to ≤ length text) (shown : ShowsText a text screen) where
  abbrev after : List ℕ
  after = edited_text text from to new

  abbrev change : Change
  change = edit_change a text from to new

  abbrev end : ℕ
  end = change.end

  -- The end of the edit in the old text.
  abbrev old_end : ℕ
  old_end = length_before change end

  ends : EndsFirst a text after change
  ends = ends_first text from to new forward inside a

  old_length : length_before change (length after) ≡ length text
  old_length = let long = edited_long text from to new forward inside in omega arith

  -- Before the edit nothing changed.
  front : take from screen ≡ take from (colours a after)
  front =
      sym (take-take from (length text) screen (omega arith))
      ∙ ap (take from) shown.cells
      ∙ take_colours a 0 from text
      ∙ sym (take_colours a 0 from after ∙ ap (colours_from a 0) (take-append-le from (take from text) (new ++ drop to text) (omega (arith, length-take-le from text (omega arith))) ∙ take-take from from text (omega arith)))

  -- Behind its end the same bytes are read from the same state.
  same_bytes : drop end after ≡ drop old_end text
  same_bytes =
      let n = from + length new in
      let d = end - n in
      let is : n + d ≡ end = omega (arith, ends.behind) in
      let was : to + d ≡ old_end = omega (arith, ends.behind) in
      ap (λ k. drop k after) (sym is) ∙ sym (drop-drop d n after) ∙ ap (drop d) (edited_drop text from to new forward inside) ∙ drop-drop d to text ∙ ap (λ k. drop k text) was

  same_rest : drop end (colours a after) ≡ drop old_end (colours a text)
  same_rest =
      let long = edited_long text from to new forward inside in
      ⊎_elim
      (λ e. drop_all end (colours a after) (omega (arith, colours_length a 0 after, e)) ∙ sym (drop_all old_end (colours a text) (omega (arith, colours_length a 0 text, e))))
      (λ e. drop_colours a 0 end after ∙ ap (λ l. colours_from a (state_before a after end) l) same_bytes ∙ ap (λ s. colours_from a s (drop old_end text)) e ∙ sym (drop_colours a 0 old_end text))
      ends.meets

  back : between old_end (length_before change (length after)) screen ≡ drop end (colours a after)
  back =
      ap (λ n. between old_end n screen) old_length
      ∙ between_is screen old_end (length text)
      ∙ ap (drop old_end) shown.cells
      ∙ sym same_rest

  whole : painted a after change screen ≡ colours a after ++ drop (length after) screen
  whole =
      let cells = colours a after in
      let rest = drop (length after) screen in
      let mid = between from end cells in
      let low : from ≤ end = omega (arith, ends.behind) in
      ap (λ l. l ++ (mid ++ (between old_end (length_before change (length after)) screen ++ rest))) front
      ∙ ap (λ l. take from cells ++ (mid ++ (l ++ rest))) back
      ∙ ap (λ l. take from cells ++ l) (sym (append_assoc mid (drop end cells) rest) ∙ ap (λ l. l ++ rest) (between_drop from end cells low))
      ∙ sym (append_assoc (take from cells) (drop from cells) rest)
      ∙ ap (λ l. l ++ rest) (take-append-drop from cells)

  pub painted_long : length after ≤ length screen → length (painted a after change screen) ≡ length screen
  painted_long wide =
      let long = colours_length a 0 after in
      ap length whole ∙ length-append (colours a after) (drop (length after) screen) ∙ omega (arith, long, length-drop (length after) screen)

  pub painting_shows : length after ≤ length screen → ShowsText a after (painted a after change screen)
  painting_shows wide = record {
    wide = omega (arith, painted_long wide);
    cells = ap (take (length after)) whole ∙ take_at (colours a after) (drop (length after) screen) (length after) (colours_length a 0 after);
  }

pub painting_shows_text : PaintingShowsText
painting_shows_text a text from to new screen forward inside shown wide = painting_shows a text from to new screen forward inside shown wide
