-- What makes an automaton lawful, stated once for scene words and every layer.
use Rattle.std.proofs.Common.{◌≡◌, ℕ, ◌<◌, ◌≤◌, Bool, arith}
use Rattle.std.proofs.lemmas.Bool.Decides.{nat_tests}
use Rattle.automaton.specs.Automaton.{Lawful, automaton}
use Rattle.automaton.specs.Layer.{fitted}

-- Answers that are right below n make a lawful automaton of n states.
pub automaton_lawful : (n : ℕ) (step class : ℕ → ℕ → ℕ) (is_open : ℕ → Bool) → n ≤ 64 → ((s b : ℕ) → s < n → step s b < n) → ((s b : ℕ) → class s b < 16) → Lawful (automaton n step class is_open)
automaton_lawful n step class is_open few below small = record {
  few_states = few;
  step_below = λ s b h. grind (arith, nat_tests, below s b);
  class_below = λ s b. grind (arith, nat_tests, small s b);
  outside_stays = λ s b h. grind (arith, nat_tests);
  outside_blank = λ s b h. grind (arith, nat_tests);
  outside_shut = λ s h. grind (arith, nat_tests);
}

pub fitted_few : (k : ℕ) → fitted k ≤ 64
fitted_few k = grind (arith, nat_tests)

-- A layer that has a state has as many as its formula says.
pub fitted_is : (k s : ℕ) → s < fitted k → fitted k ≡ k
fitted_is k s h = grind (arith, nat_tests)

-- A layer whose states fit, as their number says, and whose steps go on fitting is lawful.
pub layer_lawful : {P : Type 0} (k : ℕ) (Fits : P → Type 0) (state : ℕ → P) (step class : P → ℕ → ℕ) (is_open : P → Bool) → ((s : ℕ) → s < k → Fits (state s)) → ((p : P) (b : ℕ) → Fits p → step p b < k) → ((p : P) (b : ℕ) → class p b < 16) → Lawful (automaton (fitted k) (λ s. step (state s)) (λ s. class (state s)) (λ s. is_open (state s)))
layer_lawful k Fits state step class is_open fits goes small =
    automaton_lawful (fitted k) _ _ _ (fitted_few k) (λ s b h. let e = fitted_is k s h in rw e (goes (state s) b (fits s (rw e at h)))) (λ s b. small (state s) b)
