-- A number is written in decimal digits: at least one, no sign, zeros in front as you like, and a value below 2^32.
use Rattle.std.specs.Prelude.{ℕ, ◌+◌, ◌-◌, ◌*◌, cond, Bool, true, not, ◌&&◌, List, [], ◌∷◌, length, Some, None, Option, ◌==◌, nat_le, nat_lt}

abbrev pub is_digit : ℕ → Bool
is_digit b = nat_le 0x30 b && nat_le b 0x39

abbrev pub all_digits : List ℕ → Bool
all_digits [] = true
all_digits (b ∷ bs) = is_digit b && all_digits bs

-- The value with one more digit.
abbrev pub longer : ℕ → ℕ → ℕ
longer value b = value * 10 + (b - 0x30)

-- The same, if it is a digit and the value stays below 2^32.
abbrev pub longer_within : ℕ → ℕ → Option ℕ
longer_within value b = cond (is_digit b && nat_lt (longer value b) 4294967296) (Some (longer value b)) None

-- The value of digits behind others of a value.
abbrev pub value_from : ℕ → List ℕ → ℕ
value_from value [] = value
value_from value (b ∷ bs) = value_from (longer value b) bs

-- A word that is a number.
abbrev pub is_number : List ℕ → Bool
is_number word = not (length word == 0) && (all_digits word && nat_lt (value_from 0 word) 4294967296)

abbrev pub number_of : List ℕ → Option ℕ
number_of word = cond (is_number word) (Some (value_from 0 word)) None
