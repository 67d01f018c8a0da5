-- Bytes that are written are read as they were: each byte by itself, and then all.
use Rattle.std.proofs.Common.{◌≡◌, ℕ, ◌+◌, ◌*◌, ◌/◌, ◌%◌, ◌<◌, ◌≤◌, eqb, leb, false, List, [], ◌∷◌, ◌++◌, Some, All, ◌&&◌, sym, refl, ap, ◌∙◌, subst, ⊎_elim, append_assoc, arith}
use Rattle.std.specs.List.{flat_map, AllByRecursion}
use Rattle.std.specs.Option.{option_map, option_and_then}
use Rattle.std.proofs.lemmas.Bool.{cases_eq, cases_lt, ne_eqb, le-leb, lt-leb, and_right}
use Rattle.std.proofs.lemmas.Bool.Decides.{nat_tests}
use Rattle.std.proofs.lemmas.List.Elements.{recursion_from_All}
use Rattle.notation.specs.Bytes.{read_in_front, bytes_from, bytes_then, none_left, bytes_of}
use Rattle.notation.specs.Digits.{digit_value, lower_digit, upper_digit}
use Rattle.notation.specs.Laws.{QuotedReadsBack, in_pairs}
use Rattle.notation.specs.Quoted.{written, quoted}
use Rattle.notation.specs.Words.{is_blank}
use Rattle.notation.specs.declared.spot.Spot.TheVariants.{Pairs, Text, Behind}

-- A digit has the value that it was written for.
pub upper_value : (n : ℕ) → n < 16 → digit_value (upper_digit n) ≡ Some n
upper_value n h = grind (arith, nat_tests)

pub lower_value : (n : ℕ) → n < 16 → digit_value (lower_digit n) ≡ Some n
lower_value n h = grind (arith, nat_tests)

-- A byte that equals k or not.
at_or_not : (P : ℕ → Type 0) (b k : ℕ) → P k → (eqb b k ≡ false → P b) → P b
at_or_not P b k same other = ⊎_elim (λ e. subst P (sym e) same) (λ e. other (ne_eqb b k e)) (cases_eq b k)

halves : (b : ℕ) → 16 * (b / 16) + b % 16 ≡ b
halves b = omega arith

module _ (rest : List ℕ) where
  -- A byte in quotes, with whatever stands behind it.
  abbrev Reads : ℕ → Type 0
  Reads b = bytes_from Text (written b ++ rest) ≡ option_map (read_in_front b) (bytes_from Text rest)

  module _ (b : ℕ) (e₁ : eqb b 0x22 ≡ false) (e₂ : eqb b 0x5C ≡ false) (e₃ : eqb b 0x0A ≡ false) (e₄ : eqb b 0x0D ≡ false) (e₅ : eqb b 0x09 ≡ false) where
    plain : 0x20 ≤ b → b ≤ 0x7E → Reads b
    plain low high =
        let l₁ = le-leb 0x20 b low in
        let l₂ = le-leb b 0x7E high in
        simp (e₁, e₂, e₃, e₄, e₅, l₁, l₂)

    coded : b < 256 → (leb 0x20 b && leb b 0x7E) ≡ false → Reads b
    coded small none =
        let high = upper_value (b / 16) (omega arith) in
        let unit = upper_value (b % 16) (omega arith) in
        simp (e₁, e₂, e₃, e₄, e₅, none, high, unit, halves b)

    any_other : b < 256 → Reads b
    any_other small =
        ⊎_elim (λ low. coded small (ap (λ t. t && leb b 0x7E) (lt-leb 0x20 b low)))
        (λ low. ⊎_elim (λ high. coded small (and_right (leb 0x20 b) (leb b 0x7E) (lt-leb b 0x7E high))) (λ high. plain low high) (cases_lt 0x7E b))
        (cases_lt b 0x20)

  reads : (b : ℕ) → b < 256 → Reads b
  reads b small =
      at_or_not Reads b 0x22 refl (λ e₁. at_or_not Reads b 0x5C refl (λ e₂. at_or_not Reads b 0x0A refl (λ e₃. at_or_not Reads b 0x0D refl (λ e₄. at_or_not Reads b 0x09 refl (λ e₅. any_other b e₁ e₂ e₃ e₄ e₅ small)))))

-- A text in quotes, with a blank or nothing behind it.
module _ (rest : List ℕ) (apart : bytes_from Behind rest ≡ Some ([], rest)) where
  text_read : (bytes : List ℕ) → AllByRecursion (λ b. b < 256) bytes → bytes_from Text (flat_map written bytes ++ 0x22 ∷ rest) ≡ Some (bytes, rest)
  text_read [] small = apart
  text_read (b ∷ bs) small =
      let more = flat_map written bs ++ 0x22 ∷ rest in
      ap (bytes_from Text) (append_assoc (written b) (flat_map written bs) (0x22 ∷ rest))
      ∙ reads more b small.0
      ∙ ap (option_map (read_in_front b)) (text_read bs small.1)

  pub quoted_read : (bytes : List ℕ) → All (λ b. b < 256) bytes → bytes_then (quoted bytes ++ rest) ≡ Some (bytes, rest)
  quoted_read bytes small =
      ap (bytes_from Text) (append_assoc (flat_map written bytes) (0x22 ∷ []) rest)
      ∙ text_read bytes (recursion_from_All (λ b. b < 256) bytes small)

pub quoted_reads_back : QuotedReadsBack
quoted_reads_back bytes small =
    ap (option_and_then none_left) (text_read [] refl bytes (recursion_from_All (λ b. b < 256) bytes small))

-- A blank is no digit.
not_blank : (d n : ℕ) → digit_value d ≡ Some n → is_blank d ≡ false
not_blank d n is = grind (arith, nat_tests)

module _ (digit : ℕ → ℕ) (value : (n : ℕ) → n < 16 → digit_value (digit n) ≡ Some n) where
  pair_read : (b : ℕ) (rest : List ℕ) → b < 256 → bytes_from Pairs (digit (b / 16) ∷ digit (b % 16) ∷ rest) ≡ option_map (read_in_front b) (bytes_from Pairs rest)
  pair_read b rest small =
      let high = value (b / 16) (omega arith) in
      let unit = value (b % 16) (omega arith) in
      let apart = not_blank (digit (b / 16)) (b / 16) high in
      simp (apart, high, unit, halves b)

  pairs_read : (bytes : List ℕ) → AllByRecursion (λ b. b < 256) bytes → bytes_then (in_pairs digit bytes) ≡ Some (bytes, [])
  pairs_read [] small = refl
  pairs_read (b ∷ bs) small = pair_read b _ small.0 ∙ ap (option_map (read_in_front b)) (pairs_read bs small.1)

  pub pairs_read_back : (bytes : List ℕ) → All (λ b. b < 256) bytes → bytes_of (in_pairs digit bytes) ≡ Some bytes
  pairs_read_back bytes small = ap (option_and_then none_left) (pairs_read bytes (recursion_from_All (λ b. b < 256) bytes small))
