-- Bytes written as text in quotes.
use Rattle.std.specs.Prelude.{ℕ, ◌/◌, ◌%◌, cond, ◌||◌, ◌&&◌, List, [], ◌∷◌, ◌++◌, ◌==◌, nat_le}
use Rattle.std.specs.List.{flat_map}
use Rattle.notation.specs.Digits.{upper_digit}

-- Bytes 20 to 7E stand for themselves, but a quote and a backslash get a backslash in front;
-- a line feed, a carriage return and a tab are \n, \r and \t, and all others \x and two digits.
abbrev pub written : ℕ → List ℕ
written b =
    cond (b == 0x22 || b == 0x5C) (0x5C ∷ b ∷ [])
    (cond (b == 0x0A) (0x5C ∷ 0x6E ∷ [])
    (cond (b == 0x0D) (0x5C ∷ 0x72 ∷ [])
    (cond (b == 0x09) (0x5C ∷ 0x74 ∷ [])
    (cond (nat_le 0x20 b && nat_le b 0x7E) (b ∷ [])
    (0x5C ∷ 0x78 ∷ upper_digit (b / 16) ∷ upper_digit (b % 16) ∷ [])))))

abbrev pub quoted : List ℕ → List ℕ
quoted bytes = 0x22 ∷ (flat_map written bytes ++ 0x22 ∷ [])
