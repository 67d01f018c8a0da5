use Rattle.std.proofs.Common.{◌≡◌, drop}
use Rattle.hosting.specs.Lent.{no_options, words_read}
use Rattle.hosting.proofs.options.Options.read.Given as goal

-- What the words that are left make of the options so far is what all of them come to.
abbrev pub invariant-loop-word : goal.invariant-loop-word
invariant-loop-word l = words_read l.options (drop l.word-index l.words) ≡ words_read no_options l.words
