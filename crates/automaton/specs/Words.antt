-- Scene words: the grammar at the bottom of every pile, of blanks, words, numbers and marks.
-- It has three states: 0 on the ground, 1 in a word, 2 in a number. Each of them is open.
use Rattle.std.specs.Prelude.{ℕ, Bool, true, cond, ◌&&◌, ◌||◌, ◌==◌, nat_le}
use Rattle.automaton.specs.Automaton.{Automaton, automaton}
use Rattle.automaton.specs.Class as class
use Rattle.automaton.specs.declared.byte_kind.ByteKind.{ByteKind}
use Rattle.automaton.specs.declared.byte_kind.ByteKind.TheVariants.{Blank, Letter, Digit, Point, Other}

abbrev pub within : ℕ → ℕ → ℕ → Bool
within low high b = nat_le low b && nat_le b high

abbrev pub byte_kind : ℕ → ByteKind
byte_kind b =
    cond (b == 0x09 || b == 0x0A || b == 0x0D || b == 0x20) Blank
    (cond (within 0x41 0x5A b || within 0x61 0x7A b || b == 0x5F || within 0x80 0xFF b) Letter
    (cond (within 0x30 0x39 b) Digit
    (cond (b == 0x2E) Point Other)))

abbrev pub ground : ℕ
ground = 0

abbrev pub in_word : ℕ
in_word = 1

abbrev pub in_number : ℕ
in_number = 2

-- A digit goes on with a word, and a point with a number; elsewhere a digit begins a number.
abbrev pub words_step : ℕ → ByteKind → ℕ
words_step s Blank = ground
words_step s Letter = in_word
words_step s Digit = cond (s == in_word) in_word in_number
words_step s Point = cond (s == in_number) in_number ground
words_step s Other = ground

abbrev pub words_class : ℕ → ByteKind → ℕ
words_class s Blank = class.blank
words_class s Letter = class.word
words_class s Digit = cond (s == in_word) class.word class.number
words_class s Point = cond (s == in_number) class.number class.mark
words_class s Other = class.mark

abbrev pub words : Automaton
words = automaton 3 (λ s b. words_step s (byte_kind b)) (λ s b. words_class s (byte_kind b)) (λ s. true)
