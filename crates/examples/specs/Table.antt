-- The worked examples: what the definitions give on small texts, one field each.
-- They tie the definitions to what a reader can check by hand.
use Rattle.std.specs.Prelude.{◌≡◌, ℕ, Bool, true, false, List, [], ◌∷◌, map, length, replicate, Some, None, codes}
use Rattle.automaton.specs.Walk.{colours}
use Rattle.automaton.specs.Words.{words}
use Rattle.automaton.specs.Comment.{comment}
use Rattle.automaton.specs.Quoted.{quoted}
use Rattle.automaton.specs.Region.{region}
use Rattle.brackets.specs.declared.partner.Partner.{Partner}
use Rattle.brackets.specs.Partner.{partner}
use Rattle.positions.specs.Position.{position, spot}
use Rattle.model.specs.declared.change.Change.{Change}
use Rattle.model.specs.declared.refusal.Refusal.TheVariants.{NoBracket}
use Rattle.model.specs.Calls.{partner_refusal}
use Rattle.model.specs.Edit.{edited_text, edited_chunks}
use Rattle.model.specs.End.{edit_change}
use Rattle.model.specs.Model.{Model}
use Rattle.model.specs.Paint.{painted}

-- a # b, line feed, 1
abbrev pub noted : List ℕ
noted = 0x61 ∷ 0x23 ∷ 0x62 ∷ 0x0A ∷ 0x31 ∷ []

-- ( a " ] " )
abbrev pub in_string : List ℕ
in_string = 0x28 ∷ 0x61 ∷ 0x22 ∷ 0x5D ∷ 0x22 ∷ 0x29 ∷ []

-- F0 9F 98 80, a
abbrev pub wide : List ℕ
wide = 0xF0 ∷ 0x9F ∷ 0x98 ∷ 0x80 ∷ 0x61 ∷ []

abbrev pub pair : ℕ → Bool → Partner
pair place agree = record { place = place; agree = agree }

-- A document with a text of one chunk.
abbrev pub holding : List ℕ → Model
holding text = record { slots = 1; store = 64; readings = 1; usable = 1; chunks = text ∷ []; due = None }

abbrev pub change : ℕ → ℕ → ℕ → ℕ → Change
change place removed inserted end = record { place = place; removed = removed; inserted = inserted; end = end }

-- How long the chunks are that an edit leaves of chunks of given lengths.
abbrev pub lengths_after : List ℕ → ℕ → ℕ → ℕ → List ℕ
lengths_after lengths from to count = map length (edited_chunks (map (λ n. replicate n 0x61) lengths) from to (replicate count 0x61))

pub record WorkedExamples : Type 0 where
  -- a digit goes on with a word, a point with a number, and a letter ends one
  pub words_and_numbers : colours words (codes "a1 2.5m") ≡ 1 ∷ 1 ∷ 0 ∷ 2 ∷ 2 ∷ 2 ∷ 1 ∷ []
  pub comment_ends_with_line : colours (comment words) noted ≡ 1 ∷ 4 ∷ 4 ∷ 0 ∷ 2 ∷ []
  -- quote, backslash, quote, a, quote
  pub escaped_quote_ends_nothing : colours (quoted words) (0x22 ∷ 0x5C ∷ 0x22 ∷ 0x61 ∷ 0x22 ∷ []) ≡ 5 ∷ 6 ∷ 6 ∷ 5 ∷ 5 ∷ []
  -- a ` 1 ` b
  pub region_between_borders : colours (region words words) (0x61 ∷ 0x60 ∷ 0x31 ∷ 0x60 ∷ 0x62 ∷ []) ≡ 1 ∷ 7 ∷ 2 ∷ 7 ∷ 1 ∷ []
  pub region_states : (region words words).count ≡ 12
  -- the comment's first byte taken out: all behind the line end is as it was
  pub edit_ends_behind_line : edit_change (comment words) noted 1 2 [] ≡ change 1 1 0 3
  pub paint_moves_the_tail : painted (comment words) (edited_text noted 1 2 []) (change 1 1 0 3) (1 ∷ 4 ∷ 4 ∷ 0 ∷ 2 ∷ []) ≡ 1 ∷ 1 ∷ 0 ∷ 2 ∷ 2 ∷ []
  -- a quote put before the text: the walks never meet again
  pub quote_recolours_to_the_end : edit_change (quoted words) (codes "ab") 0 0 (0x22 ∷ []) ≡ change 0 0 1 3
  pub one_chunk_of_64 : lengths_after [] 0 0 64 ≡ 64 ∷ []
  pub two_chunks_of_65 : lengths_after [] 0 0 65 ≡ 33 ∷ 32 ∷ []
  -- 23 bytes are few and take their neighbour along, 32 are enough
  pub few_bytes_take_a_neighbour : lengths_after (33 ∷ 32 ∷ []) 0 10 0 ≡ 55 ∷ []
  pub enough_bytes_stay_alone : lengths_after (33 ∷ 32 ∷ []) 0 1 0 ≡ 32 ∷ 32 ∷ []
  -- ( a " ] " ): the bracket in the string is none
  pub string_hides_a_bracket : partner (quoted words) in_string 0 ≡ Some (pair 5 true)
  pub partner_back_to_the_opening : partner (quoted words) in_string 5 ≡ Some (pair 0 true)
  pub no_bracket_in_a_string : partner_refusal (quoted words) (holding in_string) 3 ≡ Some (NoBracket 3)
  -- ( [ ) ]: kinds play no part in the pairing
  pub kinds_may_differ : partner (quoted words) (codes "([)]") 0 ≡ Some (pair 3 false)
  pub inner_kinds_differ_too : partner (quoted words) (codes "([)]") 2 ≡ Some (pair 1 false)
  pub alone_without_partner : partner (quoted words) (codes "(") 0 ≡ None
  -- a character of four bytes and two units, then a
  pub inside_a_character : position wide 1 ≡ (0, 2)
  pub behind_a_character : position wide 4 ≡ (0, 2)
  pub before_a_character : spot wide 0 1 ≡ 0
  pub last_place_of_a_column : spot wide 0 2 ≡ 4
  pub beyond_the_last_column : spot wide 0 9 ≡ 5
