-- Colours written into a buffer, and a change painted on a screen, as lists.
use Rattle.std.proofs.Common.{◌≡◌, ℕ, ◌+◌, ◌-◌, ◌≤◌, true, cond, ◌&&◌, leb, List, ◌++◌, length, take, drop, Some, None, sym, ap, ◌∙◌, append_assoc, arith}
use borrow.Rule.Slice.PartMut.{put_mid, post_of, Post-is}
use lib.Seq.{paste}
use Rattle.std.specs.List.{between}
use Rattle.std.proofs.lemmas.List.{length-take-le, take_at, drop_at, take-append-le, take-take, drop_all, append-nil}
use Rattle.std.proofs.lemmas.List.Edits.{length-between}
use Rattle.std.proofs.lemmas.Bool.{le-leb, leb-true, and_from, and_parts, cond-true}
use Rattle.automaton.specs.Automaton.{Automaton}
use Rattle.automaton.specs.Walk.{colours_from, colours, state_before}
use Rattle.automaton.proofs.Walk.{colours_length}
use Rattle.model.specs.declared.change.Change.{Change}
use Rattle.model.specs.Calls.{unless, range_refusal, with_front, fits}
use Rattle.model.specs.Model.{Model, text_of}
use Rattle.model.specs.Paint.{length_before, repainted}
use Rattle.model.specs.declared.refusal.Refusal.TheVariants.{OutsideText, ShortBuffer}
use Rattle.model.proofs.Painting.{take_colours, drop_colours}
use Rattle.editing.proofs.Planning.{passed}

-- The colours of a range are those of its bytes, from the state before it.
pub colours_between : (a : Automaton) (text : List ℕ) (i j : ℕ) → colours_from a (state_before a text i) (between i j text) ≡ between i j (colours a text)
colours_between a text i j = sym (take_colours a (state_before a text i) (j - i) (drop i text)) ∙ ap (take (j - i)) (sym (drop_colours a 0 i text))

-- A range within a text and a buffer that has room for it are not refused.
pub range_passes : (m : Model) (from to cells : ℕ) → from ≤ to → to ≤ length (text_of m) → to - from ≤ cells → range_refusal m from to cells ≡ None
range_passes m from to cells f i r =
    cond-true (leb from to && leb to (length (text_of m))) (cond (leb (to - from) cells) None (Some (ShortBuffer cells))) (Some (OutsideText to)) (and_from _ _ (le-leb from to f) (le-leb to (length (text_of m)) i))
    ∙ cond-true (leb (to - from) cells) None (Some (ShortBuffer cells)) (le-leb (to - from) cells r)

pub range_passed : (m : Model) (from to cells : ℕ) → range_refusal m from to cells ≡ None → (from ≤ to) × (to ≤ length (text_of m))
range_passed m from to cells e =
    let one = passed (leb from to && leb to (length (text_of m))) (OutsideText to) (unless (leb (to - from) cells) (ShortBuffer cells) None) e in
    let range = and_parts (leb from to) (leb to (length (text_of m))) one.0 in
    (leb-true from to range.0, leb-true to (length (text_of m)) range.1)

-- Cells coloured at the front of a buffer to which their bytes were copied.
pub coloured_front : (a : Automaton) (text out one cells : List ℕ) (from to s : ℕ) → from ≤ to → to ≤ length text → one ≡ with_front (between from to text) out →
    cells ≡ colours_from a s (take (to - from - 0) one) → cells ++ post_of 0 (to - from - 0) one ≡ with_front (colours_from a s (between from to text)) out
coloured_front a text out one cells from to s forward inside is made =
    let bytes = between from to text in
    let n = to - from in
    let same : n - 0 ≡ n = omega arith in
    let long : length bytes ≡ n = length-between text from to inside in
    let part : take (n - 0) one ≡ bytes = ap (λ k. take k one) same ∙ ap (take n) is ∙ take_at bytes (drop (length bytes) out) n long in
    let rest : drop (n - 0) one ≡ drop n out = ap (λ k. drop k one) same ∙ ap (drop n) is ∙ drop_at bytes (drop (length bytes) out) n long ∙ ap (λ k. drop k out) long in
    let shown : cells ≡ colours_from a s bytes = made ∙ ap (colours_from a s) part in
    ap (λ l. l ++ drop (n - 0) one) shown ∙ ap (λ l. colours_from a s bytes ++ l) (rest ∙ ap (λ k. drop k out) (sym (colours_length a s bytes ∙ long)))

-- With the text's colours, where the state is that of the text's walk.
pub front_is : (a : Automaton) (text out : List ℕ) (from to s : ℕ) → s ≡ state_before a text from → with_front (colours_from a s (between from to text)) out ≡ with_front (between from to (colours a text)) out
front_is a text out from to s state = ap (λ l. with_front l out) (ap (λ x. colours_from a x (between from to text)) state ∙ colours_between a text from to)

-- A buffer that has just the room is filled.
pub front_fills : (part out : List ℕ) → length part ≡ length out → with_front part out ≡ part
front_fills part out long = ap (λ l. part ++ l) (drop_all (length part) out (omega arith)) ∙ append-nil part

-- The tail of a screen moved, and then cells written before it.
pub repainted_is : (n : ℕ) (screen moved cells : List ℕ) (c : Change) →
    c.place ≤ c.end → c.end ≤ n → n ≤ length screen → length_before c n ≤ length screen → c.inserted ≤ c.end →
    moved ≡ paste screen c.end (drop (length_before c c.end) screen) (length_before c n - length_before c c.end) →
    put_mid c.place (c.end - c.place) moved cells ≡ repainted cells c n screen
repainted_is n screen moved cells c low high wide old-wide few is =
    let e = c.end in
    let gap = length_before c n - length_before c e in
    let tail = take gap (drop (length_before c e) screen) in
    let sum : e + gap ≡ n = omega arith in
    let shape : moved ≡ take e screen ++ (tail ++ drop n screen) = is ∙ ap (λ k. (take e screen ++ tail) ++ drop k screen) sum ∙ append_assoc (take e screen) tail (drop n screen) in
    let long : length (take e screen) ≡ e = length-take-le e screen (omega arith) in
    let front : take c.place moved ≡ take c.place screen = ap (take c.place) shape ∙ take-append-le c.place (take e screen) (tail ++ drop n screen) (omega arith) ∙ take-take c.place e screen low in
    let back : post_of c.place (e - c.place) moved ≡ tail ++ drop n screen = Post-is c.place e moved low ∙ ap (drop e) shape ∙ drop_at (take e screen) (tail ++ drop n screen) e long in
    ap (λ l. l ++ (cells ++ post_of c.place (e - c.place) moved)) front
    ∙ ap (λ l. take c.place screen ++ (cells ++ l)) back

-- The cells between were written as a buffer that they fill.
pub repainted_with : (n : ℕ) (screen moved out cells : List ℕ) (c : Change) →
    c.place + c.inserted ≤ c.end → c.end ≤ n → n ≤ length screen → length_before c n ≤ length screen →
    moved ≡ paste screen c.end (drop (length_before c c.end) screen) (length_before c n - length_before c c.end) → length moved ≡ length screen →
    out ≡ with_front cells (between c.place c.end moved) → length cells ≡ c.end - c.place → put_mid c.place (c.end - c.place) moved out ≡ repainted cells c n screen
repainted_with n screen moved out cells c low high wide old-wide is same written long =
    let room = length-between moved c.place c.end (omega arith) in
    repainted_is n screen moved out c (omega arith) high wide old-wide (omega arith) is ∙ ap (λ l. repainted l c n screen) (written ∙ front_fills cells _ (long ∙ sym room))

-- The tests of a paint.
pub fits_parts : (c : Change) (n : ℕ) → fits c n ≡ true → (c.place + c.inserted ≤ c.end) × (c.end ≤ n)
fits_parts c n e = let both = and_parts (leb (c.place + c.inserted) c.end) (leb c.end n) e in (leb-true (c.place + c.inserted) c.end both.0, leb-true c.end n both.1)
