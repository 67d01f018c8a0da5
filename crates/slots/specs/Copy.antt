-- Bytes copied into a buffer from a place on: what stands before and behind them stays.
use Rattle.std.specs.Prelude.{◌≡◌, ℕ, ◌+◌, List, ◌++◌, length, take, drop}

abbrev pub pasted : List ℕ → ℕ → List ℕ → List ℕ
pasted out at bytes = take at out ++ (bytes ++ drop (at + length bytes) out)

pub record Copied (bytes out : List ℕ) (at : ℕ) (after : List ℕ) (end : ℕ) : Type 0 where
  pub end_is : end ≡ at + length bytes
  pub after_is : after ≡ pasted out at bytes
