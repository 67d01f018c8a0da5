-- What a pile's name finds, as a value.
use Rattle.std.proofs.Common.{◌≡◌, false, List, ℕ, Some, None, Option, refl, sym, ◌∙◌, subst}
use Rattle.std.specs.Prelude.{◌≢◌}
use Rattle.std.specs.Str.{bytes_eq}
use Rattle.std.proofs.lemmas.Bool.{false_from_ne_true}
use Rattle.std.proofs.lemmas.Slice.Eq.{bytes_eq-Decides}
use Rattle.report.specs.declared.pile.Pile.{Pile}
use Rattle.report.specs.declared.pile.Pile.TheVariants.{Words, Comment, String, Region, StringComment, CommentString, CommentRegion, StringRegion, Comment4, Comment5}
use Rattle.report.specs.Piles.{pile_name, FindsByName}
use Rattle.hosting.specs.Lent.{pile_named}

own_name : (p : Pile) → pile_named (pile_name p) ≡ Some p
own_name Words = refl
own_name Comment = refl
own_name String = refl
own_name Region = refl
own_name StringComment = refl
own_name CommentString = refl
own_name CommentRegion = refl
own_name StringRegion = refl
own_name Comment4 = refl
own_name Comment5 = refl

other : (name own : List ℕ) → own ≢ name → bytes_eq name own ≡ false
other name own ne = false_from_ne_true (bytes_eq name own) (λ e. ne (sym ((bytes_eq-Decides name own).0 e)))

no_name : (name : List ℕ) → ((p : Pile) → pile_name p ≢ name) → pile_named name ≡ None
no_name name ne =
    rw (
      other name (pile_name Words) (ne Words),
      other name (pile_name Comment) (ne Comment),
      other name (pile_name String) (ne String),
      other name (pile_name Region) (ne Region),
      other name (pile_name StringComment) (ne StringComment),
      other name (pile_name CommentString) (ne CommentString),
      other name (pile_name CommentRegion) (ne CommentRegion),
      other name (pile_name StringRegion) (ne StringRegion),
      other name (pile_name Comment4) (ne Comment4),
      other name (pile_name Comment5) (ne Comment5),
    )

pub found_by_name : (name : List ℕ) (found : Option Pile) → FindsByName name found → found ≡ pile_named name
found_by_name name None ne = sym (no_name name ne)
found_by_name name (Some p) is = sym (own_name p) ∙ subst (λ n. pile_named (pile_name p) ≡ pile_named n) is refl
