-- What the program writes for a text and its colours, byte by byte, in one of two views.
-- Digits shows each class as a digit; Terminal shows the text itself in the terminal's colours.
use Rattle.std.specs.Prelude.{ℕ, ◌+◌, ◌/◌, ◌%◌, cond, not, ◌&&◌, List, [], ◌∷◌, ◌++◌, ◌==◌, nat_le, nat_lt, slice_index}
use Rattle.notation.specs.Digits.{lower_digit}
use Rattle.report.specs.declared.view.View.{View}
use Rattle.report.specs.declared.view.View.TheVariants.{Digits, Terminal}

abbrev pub line_feed : ℕ
line_feed = 0x0A

-- 0 to 9 and a to f
abbrev pub hex_digit : ℕ → ℕ
hex_digit n = lower_digit n

-- One digit for a byte, and a new line behind a line feed.
abbrev pub digit_of : ℕ → ℕ → List ℕ
digit_of b class = hex_digit (class % 16) ∷ cond (b == line_feed) (line_feed ∷ []) []

-- The foreground colour of each class, as terminals number it.
abbrev pub palette : List ℕ
palette = 90 ∷ 37 ∷ 36 ∷ 33 ∷ 32 ∷ 31 ∷ 35 ∷ 34 ∷ 91 ∷ 92 ∷ 93 ∷ 94 ∷ 95 ∷ 96 ∷ 97 ∷ 39 ∷ []

-- ESC [ and the two digits of a number and m
abbrev pub escape_sequence : ℕ → List ℕ
escape_sequence n = 0x1B ∷ 0x5B ∷ (0x30 + n / 10) ∷ (0x30 + n % 10) ∷ 0x6D ∷ []

abbrev pub switch_to : ℕ → List ℕ
switch_to class = escape_sequence (slice_index palette (class % 16))

-- A control byte is written as ^ and a sign, as ^I and ^[ and ^?; line feeds stay.
abbrev pub visible : ℕ → List ℕ
visible b =
    cond (b == 0x7F) (0x5E ∷ 0x3F ∷ [])
    (cond (nat_lt b 0x20 && not (b == line_feed)) (0x5E ∷ (0x40 + b) ∷ []) (b ∷ []))

-- No colour begins inside a character: bytes 80 to BF go on in the colour before.
abbrev pub class_shown : ℕ → ℕ → ℕ → ℕ
class_shown last b class = cond (nat_le 0x80 b && nat_le b 0xBF) last class

abbrev pub switch : ℕ → ℕ → List ℕ
switch last class = cond (last == class) [] (switch_to class)

-- What is written before the first byte, for a byte, and behind the last one.
-- `last` is the class that the terminal shows so far.
abbrev pub opening : View → List ℕ
opening Digits = []
opening Terminal = switch_to 0

abbrev pub piece : View → ℕ → ℕ → ℕ → List ℕ
piece Digits last b class = digit_of b class
piece Terminal last b class = switch last (class_shown last b class) ++ visible b

abbrev pub next_shown : View → ℕ → ℕ → ℕ → ℕ
next_shown Digits last b class = last
next_shown Terminal last b class = class_shown last b class

abbrev pub closing : View → List ℕ
closing Digits = line_feed ∷ []
closing Terminal = escape_sequence 0

-- From a byte on, to where the text or its cells end.
abbrev pub rendered_from : View → ℕ → List ℕ → List ℕ → List ℕ
rendered_from view last [] cells = closing view
rendered_from view last (b ∷ bs) [] = closing view
rendered_from view last (b ∷ bs) (c ∷ cells) = piece view last b c ++ rendered_from view (next_shown view last b c) bs cells

abbrev pub rendered : View → List ℕ → List ℕ → List ℕ
rendered view text cells = opening view ++ rendered_from view 0 text cells
