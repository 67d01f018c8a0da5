-- What follows from the laws of a meter, and one way to show them.
use Rattle.std.proofs.Common.{◌≡◌, ℕ, List, [], ◌∷◌, ◌++◌, sym, ap, ◌∙◌, append_assoc, append-nil}
use Rattle.measure.specs.Measure.{Measure, reading, Lawful}

module _ {R : Type 0} (μ : Measure R) (lawful : Lawful μ) where
  -- The reading of two texts, one behind the other, is the join of theirs.
  pub reading_append : (xs ys : List ℕ) → reading μ (xs ++ ys) ≡ μ.join (reading μ xs) (reading μ ys)
  reading_append [] ys = sym (lawful.empty_left ys)
  reading_append (b ∷ xs) ys =
      let alone = lawful.single_alone b in
      ap (μ.join (μ.single b)) (reading_append xs ys)
      ∙ ap (λ r. μ.join r (μ.join (reading μ xs) (reading μ ys))) (sym alone)
      ∙ sym (lawful.associative (b ∷ []) xs ys)
      ∙ ap (λ r. μ.join (μ.join r (reading μ xs)) (reading μ ys)) alone

-- Where the readings are known in other words, `whole`, and those words can be joined, the laws hold
-- and the reading of every text is `whole` of it.
module _ {R : Type 0} (μ : Measure R) (whole : List ℕ → R)
    (none : μ.empty ≡ whole [])
    (one : (b : ℕ) → μ.single b ≡ whole (b ∷ []))
    (both : (xs ys : List ℕ) → μ.join (whole xs) (whole ys) ≡ whole (xs ++ ys)) where
  pub reading_whole : (xs : List ℕ) → reading μ xs ≡ whole xs
  reading_whole [] = none
  reading_whole (b ∷ xs) = ap (λ r. μ.join r (reading μ xs)) (one b) ∙ ap (μ.join (whole (b ∷ []))) (reading_whole xs) ∙ both (b ∷ []) xs

  join_whole : (xs ys : List ℕ) → μ.join (reading μ xs) (reading μ ys) ≡ whole (xs ++ ys)
  join_whole xs ys = ap (λ r. μ.join r (reading μ ys)) (reading_whole xs) ∙ ap (μ.join (whole xs)) (reading_whole ys) ∙ both xs ys

  pub lawful_whole : Lawful μ
  lawful_whole = record {
    associative = λ xs ys zs.
        ap (λ r. μ.join r (reading μ zs)) (join_whole xs ys) ∙ ap (μ.join (whole (xs ++ ys))) (reading_whole zs) ∙ both (xs ++ ys) zs
        ∙ ap whole (append_assoc xs ys zs)
        ∙ sym (ap (μ.join (reading μ xs)) (join_whole ys zs) ∙ ap (λ r. μ.join r (whole (ys ++ zs))) (reading_whole xs) ∙ both xs (ys ++ zs));
    empty_left = λ xs. ap (λ r. μ.join r (reading μ xs)) none ∙ ap (μ.join (whole [])) (reading_whole xs) ∙ both [] xs ∙ sym (reading_whole xs);
    empty_right = λ xs. ap (μ.join (reading μ xs)) none ∙ ap (λ r. μ.join r (whole [])) (reading_whole xs) ∙ both xs [] ∙ ap whole (append-nil xs) ∙ sym (reading_whole xs);
    single_alone = λ b. ap (λ r. μ.join r μ.empty) (one b) ∙ ap (μ.join (whole (b ∷ []))) none ∙ both (b ∷ []) [] ∙ sym (one b);
  }
