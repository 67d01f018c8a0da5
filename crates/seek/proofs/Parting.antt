-- The text of a subtree cut at a place, by its parts: on the left, in its own chunk, on the right.
use Rattle.std.proofs.Common.{◌≡◌, ℕ, ◌-◌, List, ◌++◌, length, sym, ap, ◌∙◌}
use Rattle.questions.specs.declared.subtree.Subtree.{Subtree}
use Rattle.questions.specs.declared.subtree.Parts.{Parts}
use Rattle.questions.specs.Parted.{Apart}
use Rattle.questions.specs.Under.{text_under}
use Rattle.questions.proofs.Cutting.{text_parts}

-- Cut off before the place or behind it: `over` says how two texts, one behind the other, are cut.
pub parts_cut : (cut : ℕ → List ℕ → List ℕ) → ((n : ℕ) (xs ys : List ℕ) → cut n (xs ++ ys) ≡ cut n xs ++ cut (n - length xs) ys) →
    {R : Type 0} {s : Subtree R} {p : Parts R} → Apart s p → (place inside beyond : ℕ) → inside ≡ place - length (text_under p.left) → beyond ≡ inside - length p.chunk.now →
    cut place (text_under s) ≡ cut place (text_under p.left) ++ (cut inside p.chunk.now ++ cut beyond (text_under p.right))
parts_cut cut over {R} {s} {p} apart place inside beyond inside-is beyond-is =
    let xs = text_under p.left in
    let cs = p.chunk.now in
    let ys = text_under p.right in
    ap (cut place) (text_parts apart)
    ∙ over place xs (cs ++ ys)
    ∙ ap (λ k. cut place xs ++ cut k (cs ++ ys)) (sym inside-is)
    ∙ ap (λ l. cut place xs ++ l) (over inside cs ys)
    ∙ ap (λ k. cut place xs ++ (cut inside cs ++ cut k ys)) (sym beyond-is)
