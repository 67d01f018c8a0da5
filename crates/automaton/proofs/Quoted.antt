-- Quoted is lawful over every lawful grammar.
use Rattle.std.proofs.Common.{ℕ, ◌*◌, ◌<◌, ltb, arith}
use Rattle.std.proofs.lemmas.Bool.{cond_both, ltb-true, ltb-false}
use Rattle.std.proofs.lemmas.Bool.Decides.{nat_tests}
use Rattle.automaton.specs.Automaton.{Automaton, Lawful}
use Rattle.automaton.specs.Quoted.{quoted, quoted_state, quoted_step, quoted_class, quoted_open}
use Rattle.automaton.specs.declared.layer_state.QuotedState.{QuotedState}
use Rattle.automaton.specs.declared.layer_state.QuotedState.TheVariants.{Below, Inside, Escaped}
use Rattle.automaton.proofs.Lawful.{layer_lawful}

module _ (G : Automaton) (lawful : Lawful G) where
  -- the states that the layer can be in
  abbrev Fits : QuotedState → Type 0
  Fits (Below s) = s < G.count
  Fits (Inside t) = t < G.count
  Fits (Escaped t) = t < G.count

  state_fits : (s : ℕ) → s < 3 * G.count → Fits (quoted_state G s)
  state_fits s h =
      let n = G.count in
      cond_both (ltb s n) _ _ Fits (λ e. ltb-true s n e)
      (λ e. cond_both (ltb s (2 * n)) _ _ Fits (λ f. omega (arith, ltb-false s n e, ltb-true s (2 * n) f)) (λ f. omega (arith, ltb-false s (2 * n) f)))

  step_fits : (p : QuotedState) (b : ℕ) → Fits p → quoted_step G p b < 3 * G.count
  step_fits (Below s) b h = grind (arith, nat_tests, lawful.step_below s b h)
  step_fits (Inside t) b h = grind (arith, nat_tests, lawful.step_below t b h)
  step_fits (Escaped t) b h = grind (arith, nat_tests, lawful.step_below t b h)

  class_small : (p : QuotedState) (b : ℕ) → quoted_class G p b < 16
  class_small (Below s) b = grind (arith, nat_tests, lawful.class_below s b)
  class_small (Inside t) b = grind (arith, nat_tests, lawful.class_below t b)
  class_small (Escaped t) b = grind (arith, nat_tests, lawful.class_below t b)

  pub quoted_lawful : Lawful (quoted G)
  quoted_lawful = layer_lawful (3 * G.count) Fits (quoted_state G) (quoted_step G) (quoted_class G) (quoted_open G) state_fits step_fits class_small
