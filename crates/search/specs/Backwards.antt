-- A search from right to left. Each byte is seen together with the forward state of type F before it,
-- while the value of type A runs from behind the text to its start.
-- `fore` gives the forward state behind a byte; `prev` the value before a byte, or nothing where the search stops behind it.
use Rattle.std.specs.Prelude.{ℕ, ◌+◌, true, false, cond, List, [], ◌∷◌, Some, None, Option}
use Rattle.search.specs.declared.stop.Stop.{Stop}

-- The forward state behind bytes.
abbrev pub forwards : {F : Type 0} → (F → ℕ → F) → F → List ℕ → F
forwards fore f [] = f
forwards fore f (b ∷ bs) = forwards fore (fore f b) bs

-- One byte more to the left, of which `prev` said this.
abbrev pub leftwards : {A : Type 0} → Stop A → Option A → Stop A
leftwards s None = record { passed = s.passed; at = s.at; stopped = true }
leftwards s (Some x) = record { passed = s.passed + 1; at = x; stopped = false }

-- Where the search comes to in bytes that begin in the forward state f: `passed` counts from behind.
abbrev pub back_stop : {F A : Type 0} → (F → ℕ → F) → (F → ℕ → A → Option A) → F → List ℕ → A → Stop A
back_stop fore prev f [] a = record { passed = 0; at = a; stopped = false }
back_stop fore prev f (b ∷ bs) a = let s = back_stop fore prev (fore f b) bs a in cond s.stopped s (leftwards s (prev f b s.at))
