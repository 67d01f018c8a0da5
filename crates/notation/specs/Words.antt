-- A line is cut into words from its front: blanks stand between words.
-- Blanks at both ends do not count, and any other byte belongs to a word.
use Rattle.std.specs.Prelude.{ℕ, cond, Bool, ◌||◌, List, [], ◌∷◌, length, ◌==◌}

-- A space, a tab or a carriage return.
abbrev pub is_blank : ℕ → Bool
is_blank b = b == 0x20 || (b == 0x09 || b == 0x0D)

-- What is left behind the blanks at the front.
abbrev pub skipped : List ℕ → List ℕ
skipped [] = []
skipped (b ∷ bs) = cond (is_blank b) (skipped bs) (b ∷ bs)

-- The bytes up to the first blank, and what is left from there on.
abbrev pub front_word : List ℕ → List ℕ
front_word [] = []
front_word (b ∷ bs) = cond (is_blank b) [] (b ∷ front_word bs)

abbrev pub front_rest : List ℕ → List ℕ
front_rest [] = []
front_rest (b ∷ bs) = cond (is_blank b) (b ∷ bs) (front_rest bs)

-- The first word, empty where there is none, and what is left behind it.
abbrev pub word : List ℕ → List ℕ
word line = front_word (skipped line)

abbrev pub behind : List ℕ → List ℕ
behind line = front_rest (skipped line)

-- No word is left.
abbrev pub is_over : List ℕ → Bool
is_over left = length (word left) == 0

-- All the words. A byte in front of a line is a word of its own if the line is empty or begins with a blank;
-- else it belongs to the line's first word.
abbrev pub lengthened : ℕ → List (List ℕ) → List (List ℕ)
lengthened b [] = (b ∷ []) ∷ []
lengthened b (w ∷ ws) = (b ∷ w) ∷ ws

abbrev pub begun : ℕ → List ℕ → List (List ℕ) → List (List ℕ)
begun b [] ws = (b ∷ []) ∷ ws
begun b (c ∷ cs) ws = cond (is_blank c) ((b ∷ []) ∷ ws) (lengthened b ws)

abbrev pub words : List ℕ → List (List ℕ)
words [] = []
words (b ∷ bs) = cond (is_blank b) (words bs) (begun b bs (words bs))
