-- Quoted: the string layer (the name String is the prelude's). A string runs from quote to quote,
-- or to the end of the line; the byte behind a backslash ends nothing, unless it ends the line.
-- State s below n is G's own; n + t is inside a string, 2n + t behind a backslash in one, and G waits in t.
use Rattle.std.specs.Prelude.{ℕ, ◌+◌, ◌-◌, ◌*◌, Bool, false, cond, ◌==◌, nat_lt}
use Rattle.automaton.specs.Automaton.{Automaton, automaton}
use Rattle.automaton.specs.Class as class
use Rattle.automaton.specs.Layer.{fitted, begins, quote, backslash, line_feed}
use Rattle.automaton.specs.declared.layer_state.QuotedState.{QuotedState}
use Rattle.automaton.specs.declared.layer_state.QuotedState.TheVariants.{Below, Inside, Escaped}

module _ (G : Automaton) where
  abbrev pub quoted_state : ℕ → QuotedState
  quoted_state s = cond (nat_lt s G.count) (Below s) (cond (nat_lt s (2 * G.count)) (Inside (s - G.count)) (Escaped (s - 2 * G.count)))

  abbrev pub quoted_step : QuotedState → ℕ → ℕ
  quoted_step (Below s) b = cond (begins quote G s b) (G.count + G.step s b) (G.step s b)
  quoted_step (Inside t) b =
      cond (b == line_feed) (G.step t b)
      (cond (b == quote) t
      (cond (b == backslash) (2 * G.count + t) (G.count + t)))
  quoted_step (Escaped t) b = cond (b == line_feed) (G.step t b) (G.count + t)

  abbrev pub quoted_class : QuotedState → ℕ → ℕ
  quoted_class (Below s) b = cond (begins quote G s b) class.string (G.class s b)
  quoted_class (Inside t) b =
      cond (b == line_feed) (G.class t b)
      (cond (b == backslash) class.escape class.string)
  quoted_class (Escaped t) b = cond (b == line_feed) (G.class t b) class.escape

  abbrev pub quoted_open : QuotedState → Bool
  quoted_open (Below s) = G.is_open s
  quoted_open (Inside t) = false
  quoted_open (Escaped t) = false

  abbrev pub quoted : Automaton
  quoted = automaton (fitted (3 * G.count)) (λ s. quoted_step (quoted_state s)) (λ s. quoted_class (quoted_state s)) (λ s. quoted_open (quoted_state s))
