-- A text as characters, that is as Unicode scalar values: its line feeds, its last line, and what it takes in UTF-16.
use Rattle.std.specs.Prelude.{ℕ, cond, List, [], ◌∷◌, length, count_by, flat_map, ◌==◌}
use Rattle.std.specs.Char.Escape.{encode_utf16}

-- How many line feeds there are.
abbrev pub line_feeds : List ℕ → ℕ
line_feeds characters = count_by (λ c. c == 0x0A) characters

-- The characters behind the last line feed: all of them where there is none.
abbrev pub last_line : List ℕ → List ℕ
last_line [] = []
last_line (c ∷ cs) = cond (line_feeds (c ∷ cs) == 0) (c ∷ cs) (last_line cs)

-- How many code units the characters take in UTF-16: one, or two from 0x10000 on.
abbrev pub code_units : List ℕ → ℕ
code_units characters = length (flat_map encode_utf16 characters)
