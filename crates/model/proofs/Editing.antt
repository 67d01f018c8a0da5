-- An edit's chunks have the edited text; how many they are.
use Rattle.std.proofs.Common.{◌≡◌, ℕ, ◌+◌, ◌-◌, ◌≤◌, List, ◌++◌, length, take, drop, sym, ap, ◌∙◌, append_assoc, arith, take-add}
use Rattle.std.specs.List.{between}
use Rattle.std.proofs.lemmas.List.Edits.{length-between}
use Rattle.std.proofs.lemmas.List.{length-append, length-drop, length-take-le, take-append-drop, drop-drop}
use Rattle.chunks.specs.Cut.{joined, cut, needed}
use Rattle.chunks.proofs.Cut.{cut_joined, cut_length}
use Rattle.chunks.proofs.Joined.{joined_append, joined_take, joined_drop}
use Rattle.model.specs.declared.run.Run.{Run}
use Rattle.model.specs.Edit.{edited_text, edited_chunks, affected, middle, middle_length}
use Rattle.model.specs.Laws.{EditLeavesText}
use Rattle.model.proofs.Runs.{covers_affected}

-- A list up to a place, from an earlier one on; and behind it, from there to a later one.
pub take_between : {X : Type 0} (i j : ℕ) (xs : List X) → i ≤ j → take i xs ++ between i j xs ≡ take j xs
take_between i j xs h = let sum : i + (j - i) ≡ j = omega arith in sym (take-add i (j - i) xs) ∙ ap (λ n. take n xs) sum

pub between_drop : {X : Type 0} (i j : ℕ) (xs : List X) → i ≤ j → between i j xs ++ drop j xs ≡ drop i xs
between_drop i j xs h =
    let sum : i + (j - i) ≡ j = omega arith in
    ap (λ n. between i j xs ++ drop n xs) (sym sum) ∙ ap (λ l. between i j xs ++ l) (sym (drop-drop (j - i) i xs)) ∙ take-append-drop (j - i) (drop i xs)

-- The bytes that come in the place of a run, with what stands before and behind it, are the edited text.
middle_around : (text : List ℕ) (run : Run) (from to : ℕ) (new : List ℕ) → run.start ≤ from → to ≤ run.end → take run.start text ++ (middle text run from to new ++ drop run.end text) ≡ edited_text text from to new
middle_around text run from to new before behind =
    let head = between run.start from text in
    let tail = between to run.end text in
    let rest = drop run.end text in
    let regroup : take run.start text ++ ((head ++ (new ++ tail)) ++ rest) ≡ (take run.start text ++ head) ++ (new ++ (tail ++ rest)) = simp append_assoc in
    regroup ∙ ap (λ l. l ++ (new ++ (tail ++ rest))) (take_between run.start from text before) ∙ ap (λ l. take from text ++ (new ++ l)) (between_drop to run.end text behind)

pub edit_leaves_text : EditLeavesText
unfolding edited_chunks
edit_leaves_text chunks from to new forward inside =
    let run = affected chunks from to (length new) in
    let c = covers_affected chunks from to forward inside (length new) in
    let bytes = middle (joined chunks) run from to new in
    let starts = ap (λ (r : Run). r.start) c.is in
    let ends = ap (λ (r : Run). r.end) c.is in
    joined_append (take run.first chunks) (cut bytes ++ drop run.last chunks)
    ∙ ap (λ l. joined (take run.first chunks) ++ l) (joined_append (cut bytes) (drop run.last chunks))
    ∙ ap (λ l. joined (take run.first chunks) ++ (l ++ joined (drop run.last chunks))) (cut_joined bytes)
    ∙ ap (λ l. l ++ (bytes ++ joined (drop run.last chunks))) (joined_take chunks run.first ∙ ap (λ n. take n (joined chunks)) (sym starts))
    ∙ ap (λ l. take run.start (joined chunks) ++ (bytes ++ l)) (joined_drop chunks run.last ∙ ap (λ n. drop n (joined chunks)) (sym ends))
    ∙ middle_around (joined chunks) run from to new c.before c.behind

pub middle_long : (text : List ℕ) (run : Run) (from to : ℕ) (new : List ℕ) → from ≤ length text → run.end ≤ length text → length (middle text run from to new) ≡ middle_length run from to (length new)
middle_long text run from to new low high =
    length-append (between run.start from text) (new ++ between to run.end text)
    ∙ ap (λ n. n + length (new ++ between to run.end text)) (length-between text run.start from low)
    ∙ ap (λ n. (from - run.start) + n) (length-append new (between to run.end text) ∙ ap (λ n. length new + n) (length-between text to run.end high))

-- How many chunks there are after an edit.
pub edited_count : (chunks : List (List ℕ)) (from to : ℕ) (new : List ℕ) → from ≤ to → to ≤ length (joined chunks) →
    let run = affected chunks from to (length new) in length (edited_chunks chunks from to new) ≡ length chunks - (run.last - run.first) + needed (middle_length run from to (length new))
unfolding edited_chunks
edited_count chunks from to new forward inside =
    let run = affected chunks from to (length new) in
    let c = covers_affected chunks from to forward inside (length new) in
    let bytes = middle (joined chunks) run from to new in
    let long = middle_long (joined chunks) run from to new (omega arith) c.within in
    let front = length-take-le run.first chunks (omega (arith, c.ordered, c.known)) in
    let back = length-drop run.last chunks in
    let made : length (cut bytes) ≡ needed (middle_length run from to (length new)) = cut_length bytes ∙ ap needed long in
    let all = length-append (take run.first chunks) (cut bytes ++ drop run.last chunks) in
    let rest = length-append (cut bytes) (drop run.last chunks) in
    omega (arith, all, rest, front, back, made, c.ordered, c.known)
