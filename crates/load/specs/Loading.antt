-- When a text can be loaded into a tree, and what is then said of it.
use Rattle.std.specs.Prelude.{◌≡◌, ℕ, ◌*◌, ◌≤◌, Bool, true, false, ◌&&◌, List, ◌++◌, length, Some, None, codes, decimal, Option, nat_le}
use Rattle.std.specs.Str.Parse.{IsNumeral, without_leading_plus, digits_value}
use Rattle.automaton.specs.Automaton.{Automaton}
use Rattle.chunks.specs.Tree.{Tree, Balanced, slots, height}
use Rattle.chunks.specs.Cut.{needed}
use Rattle.report.specs.Summary.{summary, summary_line}
use Rattle.load.specs.declared.loaded.Loaded.{Loaded}

-- A tree can have n slots.
abbrev pub usual : ℕ → Bool
usual n = nat_le 1 n && nat_le n 4096

-- And lent memory has room for them.
abbrev pub roomy : {S R : Type 0} → ℕ → List S → List ℕ → List R → Bool
roomy n lent store readings = usual n && (nat_le n (length lent) && (nat_le n (length readings) && nat_le (64 * n) (length store)))

-- What the tree says of the text in it. Its form, and so its height, is left to the program within the balance rule.
pub record Tells (a : Automaton) (text : List ℕ) (l : Loaded) : Type 0 where
  pub bytes_are : l.bytes ≡ length text
  pub chunks_are : l.chunks ≡ needed (length text)
  pub height_is : (t : Tree) × Balanced t × (length (slots t) ≡ l.chunks) × (height t ≡ l.height)
  pub low : l.height ≤ 16
  pub summary_is : l.summary ≡ summary a text

-- A text is loaded exactly if there is room for n slots and they suffice for its chunks.
abbrev pub loadable : Bool → ℕ → List ℕ → Bool
loadable room n text = room && nat_le (needed (length text)) n

abbrev pub Answers : Bool → Automaton → ℕ → List ℕ → Option Loaded → Type 0
Answers room a n text None = loadable room n text ≡ false
Answers room a n text (Some l) = (loadable room n text ≡ true) × Tells a text l

-- A word that is a decimal number (a plus may stand in front) names as many slots as a tree can have.
abbrev pub Names : List ℕ → ℕ → Type 0
Names word n = IsNumeral 10 (without_leading_plus word) × (digits_value 10 (without_leading_plus word) ≡ n) × (usual n ≡ true)

abbrev pub SlotsNamed : List ℕ → Option ℕ → Type 0
SlotsNamed word None = (n : ℕ) → Names word n → ⊥
SlotsNamed word (Some n) = Names word n

-- The two lines that are written of it.
abbrev pub loaded_lines : Loaded → List ℕ
loaded_lines l =
    codes "bytes " ++ (decimal l.bytes ++ (codes " chunks " ++ (decimal l.chunks ++ (codes " height " ++ (decimal l.height ++ (codes "\n" ++ summary_line l.summary))))))
