-- The line ends of a part of a text, block by block.
use Rattle.std.proofs.Common.{◌≡◌, ℕ, ◌+◌, ◌-◌, ◌<◌, ◌≤◌, min, Bool, true, false, cond, List, [], ◌∷◌, ◌++◌, length, get_or, take, drop, sym, refl, ap, ◌∙◌, arith, length-take, length-drop}
use Rattle.std.specs.List.{between, filter}
use Rattle.std.proofs.lemmas.List.{take_more, take_min, take_at, drop-append-le}
use Rattle.std.proofs.lemmas.List.Edits.{length-between}
use Rattle.std.proofs.lemmas.List.Sums.{length-filter}
use Rattle.std.proofs.lemmas.List.Recursion.{is_count_by}
use Rattle.std.proofs.lemmas.Slice.{between_is}
use Rattle.measure.specs.Place.{ends_line, line_ends}
use Rattle.measure.proofs.Place.{line_ends_append, line_ends_few}
use Rattle.slots.specs.Copy.{pasted}
use Rattle.model.proofs.Editing.{take_between}
use Rattle.tree.specs.declared.chunk_tree.ChunkTree.{ChunkTree}
use Rattle.tree.specs.Public.{copyable}
use Rattle.editing.specs.Content.{text_in}
use Rattle.editing.proofs.Applying.{copied_front}

one_more : (ends : Bool) (n : ℕ) → cond ends 1 0 + n ≡ cond ends (1 + n) n
one_more true n = refl
one_more false n = omega arith

-- The line ends are the bytes that end a line.
pub ends_counted : (bytes : List ℕ) → length (filter ends_line bytes) ≡ line_ends bytes
ends_counted bytes = length-filter ends_line bytes ∙ sym (is_count_by line_ends ends_line refl (λ b bs. one_more (ends_line b) (line_ends bs)) bytes)

-- How many line ends a byte counts.
abbrev pub counted : Bool → ℕ
counted ends = cond ends 1 0

-- One byte more.
pub one_byte_more : (bytes : List ℕ) (i : ℕ) → i < length bytes → line_ends (take (i + 1) bytes) ≡ line_ends (take i bytes) + counted (ends_line (get_or bytes i 0))
one_byte_more bytes i h =
    let byte = get_or bytes i 0 in
    let last : line_ends (byte ∷ []) ≡ counted (ends_line byte) = omega arith in
    ap line_ends (take_more bytes i 0 h) ∙ line_ends_append (take i bytes) (byte ∷ []) ∙ ap (λ n. line_ends (take i bytes) + n) last

-- No more line ends than bytes.
pub ends_few : (bytes : List ℕ) (i : ℕ) → line_ends (take i bytes) ≤ i
ends_few bytes i = omega (arith, line_ends_few (take i bytes), length-take i bytes)

-- One block more.
block_more : (text : List ℕ) (from at next : ℕ) → from ≤ at → at ≤ next → next ≤ length text → line_ends (between from next text) ≡ line_ends (between from at text) + line_ends (between at next text)
block_more text from at next f n w =
    ap line_ends
    (between_is text from next ∙ ap (drop from) (sym (take_between at next text n)) ∙ drop-append-le from (take at text) (between at next text) (omega (arith, length-take at text))
    ∙ ap (λ l. l ++ between at next text) (sym (between_is text from at)))
    ∙ line_ends_append (between from at text) (between at next text)

pub between_few : (text : List ℕ) (from at : ℕ) → line_ends (between from at text) ≤ length text
between_few text from at = omega (arith, line_ends_few (between from at text), length-take (at - from) (drop from text), length-drop from text)

-- A block copied to the front of a buffer that has room for it.
block_front : {R : Type 0} (T : ChunkTree R) (at next : ℕ) (out after : List ℕ) (r : Bool) → r ≡ copyable T at next out → after ≡ cond r (pasted out 0 (between at next (text_in T))) out →
    at ≤ next → next ≤ length (text_in T) → next - at ≤ length out → line_ends (take (next - at) after) ≡ line_ends (between at next (text_in T))
block_front T at next out after r answer is forward inside room =
    let block = between at next (text_in T) in
    ap line_ends (ap (take (next - at)) (copied_front T at next out after r answer is forward inside room) ∙ take_at block (drop (next - at) out) (next - at) (length-between (text_in T) at next inside))

-- And counted, behind those before it.
pub block_counted : {R : Type 0} (T : ChunkTree R) (from at end next : ℕ) (out after : List ℕ) (r : Bool) (count ends : ℕ) → r ≡ copyable T at next out → after ≡ cond r (pasted out 0 (between at next (text_in T))) out →
    from ≤ at → at < end → end ≤ length (text_in T) → next ≡ min (at + 64) end → next - at ≤ length out → count ≡ line_ends (between from (min at end) (text_in T)) → ends ≡ line_ends (take (next - at) after) → count + ends ≡ line_ends (between from next (text_in T))
block_counted T from at end next out after r count ends answer is f below inside next-is room so-far more =
    let block = block_front T at next out after r answer is (omega arith) (omega arith) room in
    let here : min at end ≡ at = omega arith in
    let all = so-far ∙ ap (λ n. line_ends (between from n (text_in T))) here in
    omega (arith, block_more (text_in T) from at next f (omega arith) (omega arith))

-- Blocks up to the end of the text, or of the part.
pub to_end : (text : List ℕ) (from to : ℕ) → line_ends (between from (min to (length text)) text) ≡ line_ends (between from to text)
to_end text from to = ap line_ends (between_is text from (min to (length text)) ∙ ap (drop from) (take_min to text) ∙ sym (between_is text from to))
