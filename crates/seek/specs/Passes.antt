-- What one look at a text's reading may answer: the value behind the text where the search runs through it.
-- Nothing says no more than that one has to look inside.
use Rattle.std.specs.Prelude.{◌≡◌, ℕ, false, List, length, IfSome, Some, Option}
use Rattle.search.specs.Backwards.{back_stop}
use Rattle.search.specs.Forwards.{through}

abbrev pub Passes : {A : Type 0} → (A → ℕ → Option A) → A → List ℕ → Option A → Type 0
Passes next a text r = IfSome r (λ x. through next a text ≡ Some x)

abbrev pub PassesBack : {F A : Type 0} → (F → ℕ → F) → (F → ℕ → A → Option A) → F → List ℕ → A → Option A → Type 0
PassesBack fore back f text a r = IfSome r (λ x. back_stop fore back f text a ≡ record { passed = length text; at = x; stopped = false })
