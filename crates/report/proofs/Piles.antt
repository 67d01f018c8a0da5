-- Every pile is among them all.
use Rattle.std.proofs.Common.{◌≡◌, ◌≢◌, ℕ, List, length, Option, None, Some, MatchOption, arith}
use Rattle.std.specs.List.{AllWithin}
use Rattle.report.specs.Piles.{pile_name, FindsByName}
use Rattle.report.specs.declared.pile.Pile.{Pile}
use Rattle.report.specs.declared.pile.Pile.TheVariants.{Words, Comment, String, Region, StringComment, CommentString, CommentRegion, StringRegion, Comment4, Comment5}
use Rattle.report.specs.declared.pile.TheConstants.{PILES}

pub among_all : (P : Pile → Type 0) → AllWithin P PILES 0 (length PILES) → (p : Pile) → P p
among_all P all Words = all 0 Words (omega arith) (omega arith)
among_all P all Comment = all 1 Words (omega arith) (omega arith)
among_all P all String = all 2 Words (omega arith) (omega arith)
among_all P all Region = all 3 Words (omega arith) (omega arith)
among_all P all StringComment = all 4 Words (omega arith) (omega arith)
among_all P all CommentString = all 5 Words (omega arith) (omega arith)
among_all P all CommentRegion = all 6 Words (omega arith) (omega arith)
among_all P all StringRegion = all 7 Words (omega arith) (omega arith)
among_all P all Comment4 = all 8 Words (omega arith) (omega arith)
among_all P all Comment5 = all 9 Words (omega arith) (omega arith)

pub finds : (name : List ℕ) (found : Option Pile) (Found : Pile → Type 0) → MatchOption found (AllWithin (λ p. pile_name p ≢ name) PILES 0 (length PILES)) Found → ((p : Pile) → Found p → pile_name p ≡ name) → FindsByName name found
finds name None Found none is = among_all (λ p. pile_name p ≢ name) none
finds name (Some p) Found some is = is p some
