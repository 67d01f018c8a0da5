-- Comment is lawful over every lawful grammar.
use Rattle.std.proofs.Common.{ℕ, ◌*◌, ◌<◌, ltb, arith}
use Rattle.std.proofs.lemmas.Bool.{cond_both, ltb-true, ltb-false}
use Rattle.std.proofs.lemmas.Bool.Decides.{nat_tests}
use Rattle.automaton.specs.Automaton.{Automaton, Lawful}
use Rattle.automaton.specs.Comment.{comment, comment_state, comment_step, comment_class, comment_open}
use Rattle.automaton.specs.declared.layer_state.CommentState.{CommentState}
use Rattle.automaton.specs.declared.layer_state.CommentState.TheVariants.{Below, Inside}
use Rattle.automaton.proofs.Lawful.{layer_lawful}

module _ (G : Automaton) (lawful : Lawful G) where
  -- the states that the layer can be in
  abbrev Fits : CommentState → Type 0
  Fits (Below s) = s < G.count
  Fits (Inside t) = t < G.count

  state_fits : (s : ℕ) → s < 2 * G.count → Fits (comment_state G s)
  state_fits s h = cond_both (ltb s G.count) _ _ Fits (λ e. ltb-true s G.count e) (λ e. omega (arith, ltb-false s G.count e))

  step_fits : (p : CommentState) (b : ℕ) → Fits p → comment_step G p b < 2 * G.count
  step_fits (Below s) b h = grind (arith, nat_tests, lawful.step_below s b h)
  step_fits (Inside t) b h = grind (arith, nat_tests, lawful.step_below t b h)

  class_small : (p : CommentState) (b : ℕ) → comment_class G p b < 16
  class_small (Below s) b = grind (arith, nat_tests, lawful.class_below s b)
  class_small (Inside t) b = grind (arith, nat_tests, lawful.class_below t b)

  pub comment_lawful : Lawful (comment G)
  comment_lawful = layer_lawful (2 * G.count) Fits (comment_state G) (comment_step G) (comment_class G) (comment_open G) state_fits step_fits class_small
