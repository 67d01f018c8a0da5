-- The laws of positions: how places, lines and columns go with each other, and that columns are what UTF-16 counts.
use Rattle.std.specs.Prelude.{◌≡◌, ℕ, ◌≤◌, true, List, length, take, encode_utf8_all}
use Rattle.std.specs.Str.{all_scalars}
use Rattle.measure.specs.Place.{line_ends}
use Rattle.positions.specs.Position.{line_of, column_of, position, spot}
use Rattle.positions.specs.Utf16.{line_feeds, last_line, code_units}

-- A later place stands on no earlier line, and on the same line at no earlier column.
pub record Ascend (text : List ℕ) (p q : ℕ) : Type 0 where
  pub lines : line_of text p ≤ line_of text q
  pub columns : line_of text p ≡ line_of text q → column_of text p ≤ column_of text q

abbrev pub PositionsAscend : Type 0
PositionsAscend = (text : List ℕ) (p q : ℕ) → p ≤ q → q ≤ length text → Ascend text p q

-- Of the places on a line that are not past a column, q is the last.
pub record LastOnLine (text : List ℕ) (line column q : ℕ) : Type 0 where
  pub within : q ≤ length text
  pub on_line : line_of text q ≡ line
  pub not_past : column_of text q ≤ column
  pub last : (p : ℕ) → p ≤ length text → line_of text p ≡ line → column_of text p ≤ column → p ≤ q

-- Every line that the text has, has a spot for each column.
abbrev pub SpotIsLargest : Type 0
SpotIsLargest = (text : List ℕ) (line column : ℕ) → line ≤ line_ends text → LastOnLine text line column (spot text line column)

-- Of the places with p's line and column, q is the last.
pub record LastThere (text : List ℕ) (p q : ℕ) : Type 0 where
  pub within : q ≤ length text
  pub not_before : p ≤ q
  pub same : position text q ≡ position text p
  pub last : (r : ℕ) → r ≤ length text → position text r ≡ position text p → r ≤ q

-- The spot of a place's position is that place, or the last with its position.
abbrev pub SpotUndoesPosition : Type 0
SpotUndoesPosition = (text : List ℕ) (p : ℕ) → p ≤ length text → LastThere text p (spot text (line_of text p) (column_of text p))

-- Behind the first i characters of a text in UTF-8: the line counts their line feeds, the column the UTF-16 code units since the last.
pub record CountsCharacters (characters : List ℕ) (i : ℕ) : Type 0 where
  pub within : length (encode_utf8_all (take i characters)) ≤ length (encode_utf8_all characters)
  pub line : line_of (encode_utf8_all characters) (length (encode_utf8_all (take i characters))) ≡ line_feeds (take i characters)
  pub column : column_of (encode_utf8_all characters) (length (encode_utf8_all (take i characters))) ≡ code_units (last_line (take i characters))

abbrev pub ColumnsAreUtf16 : Type 0
ColumnsAreUtf16 = (characters : List ℕ) (i : ℕ) → all_scalars characters ≡ true → i ≤ length characters → CountsCharacters characters i
