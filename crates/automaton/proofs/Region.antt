-- Region is lawful over every two lawful grammars.
use Rattle.std.proofs.Common.{◌≡◌, refl, ap, sym, subst, ◌∙◌, Some, mul_comm, ℕ, ◌+◌, ◌-◌, ◌*◌, ◌/◌, ◌<◌, ◌≤◌, ltb, mod-lt, div-add-mod', div-lt_iff_lt-mul, arith}
use Rattle.std.proofs.lemmas.Nat.{mul-add-lt, div-mul-add, mod-mul-add}
use Rattle.std.proofs.lemmas.Bool.{cond_both, ltb-true, ltb-false}
use Rattle.std.proofs.lemmas.Bool.Decides.{nat_tests}
use Rattle.automaton.specs.Automaton.{Automaton, Lawful}
use Rattle.automaton.specs.Region.{region, region_count, region_state, region_number, region_behind, region_step, region_class}
use Rattle.automaton.specs.declared.layer_state.RegionState.{RegionState}
use Rattle.automaton.specs.declared.layer_state.RegionState.TheVariants.{Below, Inside}
use Rattle.automaton.specs.Layer.{state_among, begins, region_border}
use Rattle.automaton.proofs.Lawful.{automaton_lawful, fitted_few}

-- The states that the layer can be in.
abbrev pub Fits : Automaton → Automaton → RegionState → Type 0
Fits G H (Below s) = s < G.count
Fits G H (Inside t u) = (t < G.count) × (u < H.count)

module _ (G H : Automaton) where
  count_few : region_count G H ≤ 64
  count_few = grind (arith, nat_tests, fitted_few (G.count + G.count * H.count))

  -- a region layer that has a state has as many as its formula says, and so has H one
  count_is : (s : ℕ) → s < region_count G H → (0 < H.count) × (region_count G H ≡ G.count + G.count * H.count)
  count_is s h = grind (arith, nat_tests)

  state_fits : (s : ℕ) → 0 < H.count → s < G.count + G.count * H.count → Fits G H (region_state G H s)
  state_fits s some h =
      let n = G.count in
      let m = H.count in
      cond_both (ltb s n) _ _ (Fits G H) (λ e. ltb-true s n e)
      (λ e. let inner : s - n < n * m = omega (arith, ltb-false s n e) in ((div-lt_iff_lt-mul some).1 inner, mod-lt (s - n) some))

  number_fits : (p : RegionState) → Fits G H p → region_number G H p < G.count + G.count * H.count
  number_fits (Below s) h = omega arith
  number_fits (Inside t u) h = grind (arith, mul-add-lt t H.count u G.count h.0 h.1)

  region_stands : (s : ℕ) → s < region_count G H → Fits G H (region_state G H s)
  region_stands s h = let e = count_is s h in state_fits s e.0 (rw e.1 at h)

  -- a state's number stands for the state
  state_of_number : (p : RegionState) → Fits G H p → region_state G H (region_number G H p) ≡ p
  state_of_number (Below s) h = grind (arith, nat_tests)
  state_of_number (Inside t u) h =
      grind (arith, nat_tests, mul_comm t H.count, div-mul-add t H.count u h.1, mod-mul-add t H.count u h.1)

  number_of_state : (s : ℕ) → region_number G H (region_state G H s) ≡ s
  number_of_state s =
      let n = G.count in
      cond_both (ltb s n) _ _ (λ p. region_number G H p ≡ s) (λ e. refl) (λ e. omega (arith, ltb-false s n e, div-add-mod' (s - n) H.count, mul_comm ((s - n) / H.count) H.count))

  -- what a number stands for is one of the layer's states, and has that number
  pub region_found : (s : ℕ) (p : RegionState) → Some p ≡ state_among (region_count G H) (region_state G H) s → Fits G H p × (0 < region_count G H) × (region_number G H p ≡ s)
  region_found s p e =
      let h : s < region_count G H = grind (arith, nat_tests) in
      let is : p ≡ region_state G H s = grind (arith, nat_tests) in
      (subst (Fits G H) (sym is) (region_stands s h), omega arith, ap (region_number G H) is ∙ number_of_state s)

  pub region_number_few : (p : RegionState) → Fits G H p → 0 < region_count G H → region_number G H p < 64
  region_number_few p h some = omega (arith, number_fits p h, count_is 0 some, count_few)

  -- a byte is read as the state says
  pub region_reads : (p : RegionState) (b : ℕ) → Fits G H p → 0 < region_count G H → ((region G H).step (region_number G H p) b ≡ region_step G H p b) × ((region G H).class (region_number G H p) b ≡ region_class G H p b)
  region_reads p b h some =
      let e = count_is 0 some in
      grind (arith, nat_tests, number_fits p h, state_of_number p h, e)

module _ (G H : Automaton) (lawful : Lawful G) (inner-lawful : Lawful H) where
  behind_fits : (p : RegionState) (b : ℕ) → Fits G H p → 0 < H.count → Fits G H (region_behind G H p b)
  behind_fits (Below s) b h some = cond_both (begins region_border G s b) _ _ (Fits G H) (λ e. (lawful.step_below s b h, some)) (λ e. lawful.step_below s b h)
  behind_fits (Inside t u) b h some = cond_both (begins region_border H u b) _ _ (Fits G H) (λ e. h.0) (λ e. (h.0, inner-lawful.step_below u b h.1))

  step_fits : (p : RegionState) (b : ℕ) → Fits G H p → 0 < H.count → region_step G H p b < G.count + G.count * H.count
  step_fits p b h some = number_fits G H (region_behind G H p b) (behind_fits p b h some)

  pub region_goes_on : (p : RegionState) (b : ℕ) → Fits G H p → 0 < region_count G H → Fits G H (region_behind G H p b)
  region_goes_on p b h some = behind_fits p b h (count_is G H 0 some).0

  class_small : (p : RegionState) (b : ℕ) → region_class G H p b < 16
  class_small (Below s) b = grind (arith, nat_tests, lawful.class_below s b)
  class_small (Inside t u) b = grind (arith, nat_tests, inner-lawful.class_below u b)

  pub region_lawful : Lawful (region G H)
  region_lawful =
      automaton_lawful (region_count G H) _ _ _ (count_few G H)
      (λ s b h. let e = count_is G H s h in rw e.1 (step_fits (region_state G H s) b (region_stands G H s h) e.0))
      (λ s b. class_small (region_state G H s) b)
