-- What a search through a text came to: within the text, and where it should, as long as readings are kept.
use Rattle.std.proofs.Common.{◌≡◌, ℕ, ◌≤◌, List, length}
use Rattle.search.specs.declared.stop.Stop.{Stop}

pub record Found {A : Type 0} (Keeps : Type 0) (text : List ℕ) (whole s : Stop A) : Type 0 where
  pub within : s.passed ≤ length text
  pub finds : Keeps → s ≡ whole
