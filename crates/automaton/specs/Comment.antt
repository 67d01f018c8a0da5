-- Comment: a layer in which a comment runs from its begin byte to the end of the line.
-- State s below n is G's own; state n + t is inside a comment, and G waits in t.
use Rattle.std.specs.Prelude.{ℕ, ◌+◌, ◌-◌, ◌*◌, Bool, false, cond, ◌==◌, nat_lt}
use Rattle.automaton.specs.Automaton.{Automaton, automaton}
use Rattle.automaton.specs.Class as class
use Rattle.automaton.specs.Layer.{fitted, begins, comment_begin, line_feed}
use Rattle.automaton.specs.declared.layer_state.CommentState.{CommentState}
use Rattle.automaton.specs.declared.layer_state.CommentState.TheVariants.{Below, Inside}

module _ (G : Automaton) where
  abbrev pub comment_state : ℕ → CommentState
  comment_state s = cond (nat_lt s G.count) (Below s) (Inside (s - G.count))

  abbrev pub comment_step : CommentState → ℕ → ℕ
  comment_step (Below s) b = cond (begins comment_begin G s b) (G.count + G.step s b) (G.step s b)
  comment_step (Inside t) b = cond (b == line_feed) (G.step t b) (G.count + t)

  abbrev pub comment_class : CommentState → ℕ → ℕ
  comment_class (Below s) b = cond (begins comment_begin G s b) class.comment (G.class s b)
  comment_class (Inside t) b = cond (b == line_feed) (G.class t b) class.comment

  abbrev pub comment_open : CommentState → Bool
  comment_open (Below s) = G.is_open s
  comment_open (Inside t) = false

  abbrev pub comment : Automaton
  comment = automaton (fitted (2 * G.count)) (λ s. comment_step (comment_state s)) (λ s. comment_class (comment_state s)) (λ s. comment_open (comment_state s))
