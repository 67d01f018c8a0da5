-- What a grammar means: a finite automaton over bytes that also colours what it reads.
-- Every definition of the crates above speaks of this record and of its laws.
use Rattle.std.specs.Prelude.{◌≡◌, ℕ, ◌<◌, ◌≤◌, Bool, false, cond, ◌&&◌, nat_lt}

-- The four answers of a grammar, as values. States, bytes and classes are numbers.
pub record Automaton : Type 0 where
  -- how many states there are; 0 says that the grammar cannot be used
  pub count : ℕ
  -- the state after a byte
  pub step : ℕ → ℕ → ℕ
  -- the class, which is the colour, of a byte read from a state
  pub class : ℕ → ℕ → ℕ
  -- whether a state is open: a layer above may begin there
  pub is_open : ℕ → Bool

-- What is true of every grammar.
pub record Lawful (a : Automaton) : Type 0 where
  pub few_states : a.count ≤ 64
  pub step_below : (s b : ℕ) → s < a.count → a.step s b < a.count
  pub class_below : (s b : ℕ) → a.class s b < 16
  -- a state at or above the count stays, colours nothing and is not open
  pub outside_stays : (s b : ℕ) → a.count ≤ s → a.step s b ≡ s
  pub outside_blank : (s b : ℕ) → a.count ≤ s → a.class s b ≡ 0
  pub outside_shut : (s : ℕ) → a.count ≤ s → a.is_open s ≡ false

-- An automaton of n states from answers that are given below n only: outside, a state stays,
-- has class 0 and is not open. Scene words and every layer are made by it.
abbrev pub automaton : ℕ → (ℕ → ℕ → ℕ) → (ℕ → ℕ → ℕ) → (ℕ → Bool) → Automaton
automaton n step class is_open = record {
  count = n;
  step = λ s b. cond (nat_lt s n) (step s b) s;
  class = λ s b. cond (nat_lt s n) (class s b) 0;
  is_open = λ s. nat_lt s n && is_open s;
}
