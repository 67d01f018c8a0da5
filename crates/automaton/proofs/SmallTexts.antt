-- The small texts are coloured as their examples say: by computing.
use Rattle.std.proofs.Common.{◌*◌, refl, ap}
use Rattle.automaton.specs.Layer.{fitted}
use Rattle.automaton.specs.Examples.{SmallTextsAreColoured}

pub small_texts_are_coloured : SmallTextsAreColoured
small_texts_are_coloured = record {
  words_numbers_marks = refl;
  comment_ends_with_its_line = refl;
  escaped_quote_ends_nothing = refl;
  string_ends_with_its_line = refl;
  region_between_borders = refl;
  region_waits_for_its_comment = refl;
  no_comment_in_a_string = refl;
  as_many_as_64_states = λ G e. ap (λ n. fitted (2 * n)) e;
  brackets_open_and_close = refl;
  no_bracket_in_a_string = refl;
}
