-- What a claim says of a join, by the laws of the meter.
use Rattle.std.proofs.Common.{◌≡◌, ℕ, List, ◌++◌, sym, ap, ◌∙◌}
use Rattle.measure.specs.Measure.{Measure, reading, Lawful}
use Rattle.measure.proofs.Measure.{reading_append}
use Rattle.slots.specs.Claim.{Claim, nothing, kept, Says, Fair}

module _ {R : Type 0} (μ : Measure R) (lawful : Lawful μ) where
  says_join_kept : (ν : Measure R) → ν ≡ μ → (a b : R) (xs ys : List ℕ) → a ≡ reading ν xs → b ≡ reading ν ys → μ.join a b ≡ reading ν (xs ++ ys)
  says_join_kept ν e a b xs ys p q =
      ap (λ v. μ.join v b) (p ∙ ap (λ n. reading n xs) e) ∙ ap (μ.join (reading μ xs)) (q ∙ ap (λ n. reading n ys) e) ∙ sym (reading_append μ lawful xs ys) ∙ ap (λ n. reading n (xs ++ ys)) (sym e)

  pub says_join : (w : Claim R) → Fair w μ → (a b : R) (xs ys : List ℕ) → Says w a xs → Says w b ys → Says w (μ.join a b) (xs ++ ys)
  says_join nothing fair a b xs ys p q = tt
  says_join (kept ν) fair a b xs ys p q = says_join_kept ν fair a b xs ys p q

-- The same value is kept for the same bytes.
pub says_same : {R : Type 0} (w : Claim R) (a b : R) (xs ys : List ℕ) → a ≡ b → xs ≡ ys → Says w a xs → Says w b ys
says_same nothing a b xs ys e f p = tt
says_same (kept μ) a b xs ys e f p = sym e ∙ p ∙ ap (reading μ) f
