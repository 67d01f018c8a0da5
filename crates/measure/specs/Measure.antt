-- What a meter means: readings of bytes that can be joined, and the reading of a text.
-- R is the meter's own type of reading. Some of its values may be no text's reading.
use Rattle.std.specs.Prelude.{◌≡◌, ℕ, List, [], ◌∷◌, ◌++◌}

-- The three functions of a meter, as values.
pub record Measure (R : Type 0) : Type 0 where
  -- the reading of an empty text
  pub empty : R
  -- the reading of one byte
  pub single : ℕ → R
  -- the reading of two texts, one behind the other
  pub join : R → R → R

-- The reading of a text: its bytes' readings joined in order.
abbrev pub reading : {R : Type 0} → Measure R → List ℕ → R
reading μ [] = μ.empty
reading μ (b ∷ bs) = μ.join (μ.single b) (reading μ bs)

-- What is true of every meter, for all readings of texts.
pub record Lawful {R : Type 0} (μ : Measure R) : Type 0 where
  pub associative : (xs ys zs : List ℕ) → μ.join (μ.join (reading μ xs) (reading μ ys)) (reading μ zs) ≡ μ.join (reading μ xs) (μ.join (reading μ ys) (reading μ zs))
  pub empty_left : (xs : List ℕ) → μ.join μ.empty (reading μ xs) ≡ reading μ xs
  pub empty_right : (xs : List ℕ) → μ.join (reading μ xs) μ.empty ≡ reading μ xs
  -- a byte's reading is that of the text which it makes alone
  pub single_alone : (b : ℕ) → μ.join (μ.single b) μ.empty ≡ μ.single b

-- What follows: the reading of two texts, one behind the other, is the join of their readings.
abbrev pub JoinsTexts : {R : Type 0} → Measure R → Type 0
JoinsTexts μ = (xs ys : List ℕ) → reading μ (xs ++ ys) ≡ μ.join (reading μ xs) (reading μ ys)
