-- What the definitions give on small texts, one field each, so that a reader can check them by hand.
-- They stand on the contract of a function of src/laws.rt, so that they are proved.
use Rattle.std.specs.Prelude.{◌≡◌, [], ◌∷◌, map, codes}
use Rattle.automaton.specs.Automaton.{Automaton}
use Rattle.automaton.specs.Bracket.{role}
use Rattle.automaton.specs.Comment.{comment}
use Rattle.automaton.specs.Quoted.{quoted}
use Rattle.automaton.specs.Region.{region}
use Rattle.automaton.specs.Walk.{colours}
use Rattle.automaton.specs.Words.{words}
use Rattle.automaton.specs.declared.role.BracketKind.TheVariants.{Round, Square, Curly}
use Rattle.automaton.specs.declared.role.Role.TheVariants.{Plain, Opening, Closing}

pub record SmallTextsAreColoured : Type 0 where
  -- a digit goes on with a word, a point with a number, and a letter or an underscore ends one
  pub words_numbers_marks : colours words (codes "a12 2.5m_(.") ≡ 1 ∷ 1 ∷ 1 ∷ 0 ∷ 2 ∷ 2 ∷ 2 ∷ 1 ∷ 1 ∷ 3 ∷ 3 ∷ []
  -- a # b, line feed, 1
  pub comment_ends_with_its_line : colours (comment words) (0x61 ∷ 0x23 ∷ 0x62 ∷ 0x0A ∷ 0x31 ∷ []) ≡ 1 ∷ 4 ∷ 4 ∷ 0 ∷ 2 ∷ []
  -- quote, backslash, quote, a, quote
  pub escaped_quote_ends_nothing : colours (quoted words) (0x22 ∷ 0x5C ∷ 0x22 ∷ 0x61 ∷ 0x22 ∷ []) ≡ 5 ∷ 6 ∷ 6 ∷ 5 ∷ 5 ∷ []
  -- quote, backslash, line feed, 1
  pub string_ends_with_its_line : colours (quoted words) (0x22 ∷ 0x5C ∷ 0x0A ∷ 0x31 ∷ []) ≡ 5 ∷ 6 ∷ 0 ∷ 2 ∷ []
  -- a ` 1 ` b
  pub region_between_borders : colours (region words words) (0x61 ∷ 0x60 ∷ 0x31 ∷ 0x60 ∷ 0x62 ∷ []) ≡ 1 ∷ 7 ∷ 2 ∷ 7 ∷ 1 ∷ []
  -- ` # `, line feed, ` a: the border in the comment ends nothing
  pub region_waits_for_its_comment : colours (region words (comment words)) (0x60 ∷ 0x23 ∷ 0x60 ∷ 0x0A ∷ 0x60 ∷ 0x61 ∷ []) ≡ 7 ∷ 4 ∷ 4 ∷ 0 ∷ 7 ∷ 1 ∷ []
  -- ` quote # quote `: the string in the region is shut
  pub no_comment_in_a_string : colours (comment (region words (quoted words))) (0x60 ∷ 0x22 ∷ 0x23 ∷ 0x22 ∷ 0x60 ∷ []) ≡ 7 ∷ 5 ∷ 5 ∷ 5 ∷ 7 ∷ []
  pub as_many_as_64_states : (G : Automaton) → G.count ≡ 32 → (comment G).count ≡ 64
  pub brackets_open_and_close : map (role words 0) (codes "()[]{}a") ≡ Opening Round ∷ Closing Round ∷ Opening Square ∷ Closing Square ∷ Opening Curly ∷ Closing Curly ∷ Plain ∷ []
  -- state 3 is inside a string
  pub no_bracket_in_a_string : role (quoted words) 3 0x5D ≡ Plain
