-- The laws of a walk and of the colours: over `++`, and one byte more.
use Rattle.std.proofs.Common.{◌≡◌, ℕ, suc, ◌+◌, ◌<◌, ◌≤◌, List, [], ◌∷◌, ◌++◌, length, get_or, take, drop, set, replicate, refl, ap, sym, arith, ◌∙◌}
use Rattle.std.proofs.lemmas.List.{take_more, take_more_set, drop_more, drop-set-lt, append_assoc}
use Rattle.automaton.specs.Automaton.{Automaton, Lawful}
use Rattle.automaton.specs.Walk.{walk, colours_from}

module _ (a : Automaton) where
  pub walk_append : (s : ℕ) (xs ys : List ℕ) → walk a s (xs ++ ys) ≡ walk a (walk a s xs) ys
  walk_append s [] ys = refl
  walk_append s (b ∷ xs) ys = walk_append (a.step s b) xs ys

  pub colours_append : (s : ℕ) (xs ys : List ℕ) → colours_from a s (xs ++ ys) ≡ colours_from a s xs ++ colours_from a (walk a s xs) ys
  colours_append s [] ys = refl
  colours_append s (b ∷ xs) ys = ap (λ l. a.class s b ∷ l) (colours_append (a.step s b) xs ys)

  pub colours_length : (s : ℕ) (xs : List ℕ) → length (colours_from a s xs) ≡ length xs
  colours_length s [] = refl
  colours_length s (b ∷ xs) = ap suc (colours_length (a.step s b) xs)

  -- one byte more
  pub walk_more : (s : ℕ) (xs : List ℕ) (i : ℕ) → i < length xs → walk a s (take (i + 1) xs) ≡ a.step (walk a s (take i xs)) (get_or xs i 0)
  walk_more s xs i h = ap (walk a s) (take_more xs i 0 h) ∙ walk_append s (take i xs) (get_or xs i 0 ∷ [])

  -- nothing is coloured outside the states, and the walk stays
  pub walk_outside : Lawful a → (s : ℕ) (bs : List ℕ) → a.count ≤ s → walk a s bs ≡ s
  walk_outside lawful s [] h = refl
  walk_outside lawful s (b ∷ bs) h = ap (λ t. walk a t bs) (lawful.outside_stays s b h) ∙ walk_outside lawful s bs h

  pub colours_outside : Lawful a → (s : ℕ) (bs : List ℕ) → a.count ≤ s → colours_from a s bs ≡ replicate (length bs) 0
  colours_outside lawful s [] h = refl
  colours_outside lawful s (b ∷ bs) h = let stays = lawful.outside_stays s b h in let blank = lawful.outside_blank s b h in (λ i. blank i ∷ colours_from a (stays i) bs) ∙ ap (λ l. 0 ∷ l) (colours_outside lawful s bs h)

  -- one cell more gives way to its class
  pub cell_coloured : (s t v i : ℕ) (cells : List ℕ) → i < length cells → a.step s (get_or cells i 0) ≡ t → a.class s (get_or cells i 0) ≡ v → (walk a t (drop (i + 1) (set cells i v)) ≡ walk a s (drop i cells)) × (take (i + 1) (set cells i v) ++ colours_from a t (drop (i + 1) (set cells i v)) ≡ take i cells ++ colours_from a s (drop i cells))
  cell_coloured s t v i cells h e f =
      let rest = drop (i + 1) cells in
      let stays : drop (i + 1) (set cells i v) ≡ rest = drop-set-lt (i + 1) cells i v (omega arith) in
      let read : drop i cells ≡ get_or cells i 0 ∷ rest = drop_more cells i 0 h in (
        ap (walk a t) stays ∙ ap (λ u. walk a u rest) (sym e) ∙ ap (walk a s) (sym read),
        (λ j. take_more_set cells i v h j ++ colours_from a (sym e j) (stays j))
            ∙ append_assoc (take i cells) (v ∷ []) _
            ∙ ap (λ c. take i cells ++ c ∷ colours_from a (a.step s (get_or cells i 0)) rest) (sym f)
            ∙ ap (λ l. take i cells ++ colours_from a s l) (sym read),
      )
