-- The records of a script, one a word: four numbers with commas between, FROM,TO,START,END.
use Rattle.std.specs.Prelude.{ℕ, cond, List, [], ◌∷◌, Some, None, Option, option_map, option_and_then, ◌==◌}
use Rattle.model.specs.declared.replacement.Replacement.{Replacement}
use Rattle.notation.specs.Words.{words}
use Rattle.notation.specs.Number.{number_of}

-- What is in front of the first comma, and what is behind it, if there is one.
abbrev pub comma_front : List ℕ → List ℕ
comma_front [] = []
comma_front (b ∷ bs) = cond (b == 0x2C) [] (b ∷ comma_front bs)

abbrev pub comma_rest : List ℕ → Option (List ℕ)
comma_rest [] = None
comma_rest (b ∷ bs) = cond (b == 0x2C) (Some bs) (comma_rest bs)

-- A number up to a comma, and what is behind the comma.
abbrev pub number_then : List ℕ → Option (ℕ × List ℕ)
number_then word = option_and_then (λ rest. option_map (λ n. (n, rest)) (number_of (comma_front word))) (comma_rest word)

-- The record that a word is, if it is one.
abbrev pub record_of : List ℕ → Option Replacement
record_of word =
    option_and_then (λ from.
    option_and_then (λ to.
    option_and_then (λ start.
    option_map (λ end. record { from = from.0; to = to.0; start = start.0; end = end })
    (number_of start.1)) (number_then to.1)) (number_then from.1)) (number_then word)

-- A record in front of those that follow.
abbrev pub in_front : Option Replacement → Option (List Replacement) → Option (List Replacement)
in_front None rest = None
in_front (Some r) rest = option_map (λ rs. r ∷ rs) rest

-- The records that words are, if each is one.
abbrev pub records_of_words : List (List ℕ) → Option (List Replacement)
records_of_words [] = Some []
records_of_words (w ∷ ws) = in_front (record_of w) (records_of_words ws)

abbrev pub records_of : List ℕ → Option (List Replacement)
records_of left = records_of_words (words left)
