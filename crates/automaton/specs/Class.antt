-- The classes that scene words and the layers give; 8 to 15 are left to table grammars.
-- A class is the colour of a byte, and what the screen shows.
use Rattle.std.specs.Prelude.{ℕ}

abbrev pub blank : ℕ
blank = 0

abbrev pub word : ℕ
word = 1

abbrev pub number : ℕ
number = 2

abbrev pub mark : ℕ
mark = 3

abbrev pub comment : ℕ
comment = 4

abbrev pub string : ℕ
string = 5

abbrev pub escape : ℕ
escape = 6

abbrev pub border : ℕ
border = 7
