-- Hexadecimal digits: their values, and the digits of a value below 16.
use Rattle.std.specs.Prelude.{ℕ, ◌+◌, ◌-◌, cond, ◌&&◌, Some, None, Option, nat_le, nat_lt}

-- 0 to 9, a to f or A to F
abbrev pub digit_value : ℕ → Option ℕ
digit_value b =
    cond (nat_le 0x30 b && nat_le b 0x39) (Some (b - 0x30))
    (cond (nat_le 0x61 b && nat_le b 0x66) (Some (b - 0x57))
    (cond (nat_le 0x41 b && nat_le b 0x46) (Some (b - 0x37)) None))

abbrev pub lower_digit : ℕ → ℕ
lower_digit n = cond (nat_lt n 10) (0x30 + n) (0x57 + n)

abbrev pub upper_digit : ℕ → ℕ
upper_digit n = cond (nat_lt n 10) (0x30 + n) (0x37 + n)
