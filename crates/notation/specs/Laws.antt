-- What is written reads back as it was. Each law stands on the contract of a function of src/laws.rt, so that it is proved.
use Rattle.std.specs.Prelude.{◌≡◌, ℕ, ◌/◌, ◌%◌, ◌<◌, List, [], ◌∷◌, Some, All}
use Rattle.std.specs.List.{flat_map}
use Rattle.notation.specs.Bytes.{bytes_of}
use Rattle.notation.specs.Digits.{lower_digit, upper_digit}
use Rattle.notation.specs.Quoted.{quoted}

-- Bytes that are written as text in quotes, as those of an edit.
abbrev pub QuotedReadsBack : Type 0
QuotedReadsBack = (bytes : List ℕ) → All (λ b. b < 256) bytes → bytes_of (quoted bytes) ≡ Some bytes

-- An x and two digits a byte.
abbrev pub in_pairs : (ℕ → ℕ) → List ℕ → List ℕ
in_pairs digit bytes = 0x78 ∷ flat_map (λ b. digit (b / 16) ∷ digit (b % 16) ∷ []) bytes

-- The same of bytes in pairs of digits, in small letters and in capitals.
pub record PairsReadBack : Type 0 where
  pub in_small : (bytes : List ℕ) → All (λ b. b < 256) bytes → bytes_of (in_pairs lower_digit bytes) ≡ Some bytes
  pub in_capitals : (bytes : List ℕ) → All (λ b. b < 256) bytes → bytes_of (in_pairs upper_digit bytes) ≡ Some bytes
