-- The automaton that each pile means.
use Rattle.automaton.specs.Automaton.{Automaton}
use Rattle.automaton.specs.Words.{words}
use Rattle.automaton.specs.Comment.{comment}
use Rattle.automaton.specs.Quoted.{quoted}
use Rattle.automaton.specs.Region.{region}
use Rattle.report.specs.declared.pile.Pile.{Pile}
use Rattle.report.specs.declared.pile.Pile.TheVariants.{Words, Comment, String, Region, StringComment, CommentString, CommentRegion, StringRegion, Comment4, Comment5}

abbrev pub four_comments : Automaton
four_comments = comment (comment (comment (comment words)))

abbrev pub automaton_of : Pile → Automaton
automaton_of Words = words
automaton_of Comment = comment words
automaton_of String = quoted words
automaton_of Region = region words words
automaton_of StringComment = quoted (comment words)
automaton_of CommentString = comment (quoted words)
automaton_of CommentRegion = comment (region words words)
automaton_of StringRegion = quoted (region words words)
automaton_of Comment4 = four_comments
automaton_of Comment5 = comment four_comments
