-- The text of a subtree in the three parts that its top slot makes, and a range of it cut into ranges of the parts.
use Rattle.std.proofs.Common.{◌≡◌, ℕ, ◌+◌, ◌≤◌, List, [], ◌∷◌, ◌++◌, length, sym, refl, ap, ◌∙◌, arith}
use Rattle.std.proofs.lemmas.List.{length-append, append-nil}
use Rattle.chunks.specs.Cut.{joined}
use Rattle.chunks.proofs.Joined.{joined_append}
use Rattle.slots.proofs.Ranges.{between_append, between_none, between_past}
use Rattle.questions.specs.declared.span.Span.{Span}
use Rattle.questions.specs.declared.subtree.Subtree.{Subtree}
use Rattle.questions.specs.declared.subtree.Parts.{Parts}
use Rattle.questions.specs.Parted.{Apart}
use Rattle.questions.specs.Spans.{within, behind}
use Rattle.questions.specs.Under.{chunks_under, text_under}

module _ {R : Type 0} {s : Subtree R} {p : Parts R} (apart : Apart s p) where
  pub text_parts : text_under s ≡ text_under p.left ++ (p.chunk.now ++ text_under p.right)
  text_parts = ap joined apart.chunks ∙ joined_append (chunks_under p.left) (p.chunk.now ∷ chunks_under p.right)

  pub range_parts : (span own rest : Span) → own ≡ behind (length (text_under p.left)) span → rest ≡ behind (length p.chunk.now) own →
      within span (text_under s) ≡ within span (text_under p.left) ++ (within own p.chunk.now ++ within rest (text_under p.right))
  range_parts span own rest own-is rest-is =
      let xs = text_under p.left in
      let cs = p.chunk.now in
      let ys = text_under p.right in
      ap (within span) text_parts
      ∙ between_append span.from span.to xs (cs ++ ys)
      ∙ ap (λ (o : Span). within span xs ++ within o (cs ++ ys)) (sym own-is)
      ∙ ap (λ l. within span xs ++ l) (between_append own.from own.to cs ys)
      ∙ ap (λ (r : Span). within span xs ++ (within own cs ++ within r ys)) (sym rest-is)

  -- How long the parts are.
  pub range_long : (span own rest : Span) → own ≡ behind (length (text_under p.left)) span → rest ≡ behind (length p.chunk.now) own →
      length (within span (text_under s)) ≡ length (within span (text_under p.left)) + (length (within own p.chunk.now) + length (within rest (text_under p.right)))
  range_long span own rest own-is rest-is =
      let xs = within span (text_under p.left) in
      let cs = within own p.chunk.now in
      let ys = within rest (text_under p.right) in
      ap length (range_parts span own rest own-is rest-is) ∙ length-append xs (cs ++ ys) ∙ ap (λ n. length xs + n) (length-append cs ys)

  -- A range that ends in the left part lies in it, and one that begins behind the chunk lies in the right one.
  pub range_left : (span : Span) → span.to ≤ length (text_under p.left) → within span (text_under p.left) ≡ within span (text_under s)
  range_left span short =
      let own = behind (length (text_under p.left)) span in
      let rest = behind (length p.chunk.now) own in
      let none : within own p.chunk.now ≡ [] = between_none own.from own.to p.chunk.now (omega arith) in
      let last : within rest (text_under p.right) ≡ [] = between_none rest.from rest.to (text_under p.right) (omega arith) in
      sym
      (range_parts span own rest refl refl
      ∙ ap (λ l. within span (text_under p.left) ++ (l ++ within rest (text_under p.right))) none
      ∙ ap (λ l. within span (text_under p.left) ++ l) last
      ∙ append-nil (within span (text_under p.left)))

  pub range_right : (span own rest : Span) → own ≡ behind (length (text_under p.left)) span → rest ≡ behind (length p.chunk.now) own → 1 ≤ length p.chunk.now → length p.chunk.now ≤ own.from →
      within rest (text_under p.right) ≡ within span (text_under s)
  range_right span own rest own-is rest-is some far =
      let from-is = ap (λ (o : Span). o.from) own-is in
      let first : within span (text_under p.left) ≡ [] = between_past span.from span.to (text_under p.left) (omega arith) in
      let none : within own p.chunk.now ≡ [] = between_past own.from own.to p.chunk.now far in
      sym
      (range_parts span own rest own-is rest-is
      ∙ ap (λ (l : List ℕ). l ++ (within own p.chunk.now ++ within rest (text_under p.right))) first
      ∙ ap (λ (l : List ℕ). l ++ within rest (text_under p.right)) none)
