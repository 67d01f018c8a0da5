-- What is told of a place's partner, whatever readings a tree keeps.
use Rattle.std.specs.Prelude.{◌≡◌, ℕ, true, false, List, length, ◌⊎◌, Some, None, Err, Option, Result, nat_lt}
use Rattle.brackets.specs.declared.partner.Partner.{Partner}
use Rattle.model.specs.Calls.{refusal_in}
use Rattle.model.specs.declared.refusal.Refusal.{Refusal}
use Rattle.model.specs.declared.refusal.Refusal.TheVariants.{OutsidePlace, NoBracket}

-- A place outside of the text is refused as that. Of a place within it only a bracket can be missed.
pub record RefusedAnyway (text : List ℕ) (place : ℕ) (result : Result (Option Partner) Refusal) : Type 0 where
  pub outside : nat_lt place (length text) ≡ false → result ≡ Err (OutsidePlace place)
  pub within : nat_lt place (length text) ≡ true → (refusal_in result ≡ None) ⊎ (refusal_in result ≡ Some (NoBracket place))
