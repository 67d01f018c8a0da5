-- The bytes of an edit or a script, as a line writes them: an x and pairs of hexadecimal digits, or text in quotes.
-- In quotes, \n \r \t \" \\ and \x with two digits stand for a byte, and every other byte for itself.
-- Blanks may stand in front. Behind the bytes comes a blank, or the line ends.
use Rattle.std.specs.Prelude.{ℕ, ◌+◌, ◌*◌, cond, Bool, true, false, List, [], ◌∷◌, Some, None, Option, option_map, option_and_then, ◌==◌, ◌||◌, ◌&&◌}
use Rattle.std.specs.Option.{option_map_or}
use Rattle.notation.specs.Words.{is_blank, is_over}
use Rattle.notation.specs.Digits.{digit_value}
use Rattle.notation.specs.declared.spot.Spot.{Spot}
use Rattle.notation.specs.declared.spot.Spot.TheVariants.{Start, Pairs, Pair, Text, Backslash, Code, CodeDigit, Behind}
use Rattle.notation.specs.declared.spot.Step.{Step}
use Rattle.notation.specs.declared.spot.Step.TheVariants.{Wrong, To, Gives}

-- What a hexadecimal digit of a value does at a spot that wants one.
abbrev pub at_digit : Spot → ℕ → Step
at_digit Pairs n = To (Pair n)
at_digit (Pair high) n = Gives (16 * high + n) Pairs
at_digit Code n = To (CodeDigit n)
at_digit (CodeDigit high) n = Gives (16 * high + n) Text
at_digit spot n = Wrong

abbrev pub digit_next : Spot → ℕ → Step
digit_next spot b = option_map_or (at_digit spot) (digit_value b) Wrong

-- What a byte does behind a backslash.
abbrev pub unescaped : ℕ → Step
unescaped b =
    cond (b == 0x6E) (Gives 0x0A Text)
    (cond (b == 0x72) (Gives 0x0D Text)
    (cond (b == 0x74) (Gives 0x09 Text)
    (cond (b == 0x22 || b == 0x5C) (Gives b Text)
    (cond (b == 0x78) (To Code) Wrong))))

-- What a byte of the line does at a spot.
abbrev pub next : Spot → ℕ → Step
next Start b = cond (is_blank b) (To Start) (cond (b == 0x78) (To Pairs) (cond (b == 0x22) (To Text) Wrong))
next Pairs b = digit_next Pairs b
next (Pair high) b = digit_next (Pair high) b
next Text b = cond (b == 0x22) (To Behind) (cond (b == 0x5C) (To Backslash) (Gives b Text))
next Backslash b = unescaped b
next Code b = digit_next Code b
next (CodeDigit high) b = digit_next (CodeDigit high) b
next Behind b = Wrong

-- The bytes may end behind a pair of digits, and behind the closing quote.
abbrev pub can_end : Spot → Bool
can_end Start = false
can_end Pairs = true
can_end (Pair high) = false
can_end Text = false
can_end Backslash = false
can_end Code = false
can_end (CodeDigit high) = false
can_end Behind = true

-- What is read: bytes, and what is left behind them. One byte more in front:
abbrev pub read_in_front : ℕ → List ℕ × List ℕ → List ℕ × List ℕ
read_in_front b read = (b ∷ read.0, read.1)

-- What a step gives, and what is read from the spot behind it.
abbrev pub after : Step → (Spot → Option (List ℕ × List ℕ)) → Option (List ℕ × List ℕ)
after Wrong go = None
after (To spot) go = go spot
after (Gives b spot) go = option_map (read_in_front b) (go spot)

abbrev pub bytes_from : Spot → List ℕ → Option (List ℕ × List ℕ)
bytes_from spot [] = cond (can_end spot) (Some ([], [])) None
bytes_from spot (b ∷ bs) = cond (can_end spot && is_blank b) (Some ([], b ∷ bs)) (after (next spot b) (λ then. bytes_from then bs))

-- The bytes at the front of a line, and what is left behind them: nothing, or what begins with a blank.
abbrev pub bytes_then : List ℕ → Option (List ℕ × List ℕ)
bytes_then line = bytes_from Start line

-- The bytes that all of a line writes: no word is left behind them.
abbrev pub none_left : List ℕ × List ℕ → Option (List ℕ)
none_left read = cond (is_over read.1) (Some read.0) None

abbrev pub bytes_of : List ℕ → Option (List ℕ)
bytes_of line = option_and_then none_left (bytes_then line)

-- The digit that is kept at a spot is below 16.
abbrev pub digit_kept : Spot → ℕ
digit_kept Start = 0
digit_kept Pairs = 0
digit_kept (Pair high) = high
digit_kept Text = 0
digit_kept Backslash = 0
digit_kept Code = 0
digit_kept (CodeDigit high) = high
digit_kept Behind = 0

abbrev pub digit_kept_after : Step → ℕ
digit_kept_after Wrong = 0
digit_kept_after (To spot) = digit_kept spot
digit_kept_after (Gives b spot) = digit_kept spot
