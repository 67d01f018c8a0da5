-- Region: a layer in which a stretch between two border bytes is read by a second grammar H, of m states.
-- State s below n is G's own; n + m t + u is inside a region: G waits in t, and H is in u.
use Rattle.std.specs.Prelude.{ℕ, ◌+◌, ◌-◌, ◌*◌, ◌/◌, ◌%◌, Bool, cond, ◌==◌, nat_lt}
use Rattle.automaton.specs.Automaton.{Automaton, automaton}
use Rattle.automaton.specs.Class as class
use Rattle.automaton.specs.Layer.{fitted, begins, region_border}
use Rattle.automaton.specs.declared.layer_state.RegionState.{RegionState}
use Rattle.automaton.specs.declared.layer_state.RegionState.TheVariants.{Below, Inside}

module _ (G H : Automaton) where
  -- With no state in H there is no region to enter, and the layer cannot be used.
  abbrev pub region_count : ℕ
  region_count = cond (H.count == 0) 0 (fitted (G.count + G.count * H.count))

  abbrev pub region_state : ℕ → RegionState
  region_state s = cond (nat_lt s G.count) (Below s) (Inside ((s - G.count) / H.count) ((s - G.count) % H.count))

  abbrev pub region_number : RegionState → ℕ
  region_number (Below s) = s
  region_number (Inside t u) = G.count + H.count * t + u

  -- The border byte ends a region where H is open, and is H's like any other byte elsewhere. H begins in its state 0.
  abbrev pub region_behind : RegionState → ℕ → RegionState
  region_behind (Below s) b = cond (begins region_border G s b) (Inside (G.step s b) 0) (Below (G.step s b))
  region_behind (Inside t u) b = cond (begins region_border H u b) (Below t) (Inside t (H.step u b))

  abbrev pub region_step : RegionState → ℕ → ℕ
  region_step p b = region_number (region_behind p b)

  abbrev pub region_class : RegionState → ℕ → ℕ
  region_class (Below s) b = cond (begins region_border G s b) class.border (G.class s b)
  region_class (Inside t u) b = cond (begins region_border H u b) class.border (H.class u b)

  abbrev pub region_open : RegionState → Bool
  region_open (Below s) = G.is_open s
  region_open (Inside t u) = H.is_open u

  abbrev pub region : Automaton
  region = automaton region_count (λ s. region_step (region_state s)) (λ s. region_class (region_state s)) (λ s. region_open (region_state s))
