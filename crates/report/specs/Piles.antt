-- The names of the piles.
use Rattle.std.specs.Prelude.{◌≡◌, ℕ, List, [], ◌∷◌, ◌++◌, codes, Option, MatchOption, ◌≢◌}
use Rattle.report.specs.declared.pile.Pile.{Pile}
use Rattle.report.specs.declared.pile.Pile.TheVariants.{Words, Comment, String, Region, StringComment, CommentString, CommentRegion, StringRegion, Comment4, Comment5}

abbrev pub pile_name : Pile → List ℕ
pile_name Words = codes "words"
pile_name Comment = codes "comment"
pile_name String = codes "string"
pile_name Region = codes "region"
pile_name StringComment = codes "string-comment"
pile_name CommentString = codes "comment-string"
pile_name CommentRegion = codes "comment-region"
pile_name StringRegion = codes "string-region"
pile_name Comment4 = codes "comment4"
pile_name Comment5 = codes "comment5"

-- Names in a row, as a message lists them.
abbrev pub listed : List Pile → List ℕ
listed [] = []
listed (p ∷ []) = pile_name p
listed (p ∷ (q ∷ ps)) = pile_name p ++ (codes ", " ++ listed (q ∷ ps))

-- A name finds the pile that has it, or nothing if none has.
abbrev pub FindsByName : List ℕ → Option Pile → Type 0
FindsByName name found = MatchOption found ((p : Pile) → pile_name p ≢ name) (λ p. pile_name p ≡ name)
