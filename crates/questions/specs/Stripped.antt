-- What follows some bytes in a given list, where it begins with them.
use Rattle.std.specs.Prelude.{◌≡◌, ℕ, List, ◌++◌, Some, None, Option}
use Rattle.std.specs.Borrow.{Bor}

abbrev pub Stripped : List ℕ → List ℕ → Option (Bor (List ℕ)) → Type 0
Stripped bytes given (Some rest) = given ≡ bytes ++ rest.now
Stripped bytes given None = (rest : List ℕ) → given ≡ bytes ++ rest → ⊥
