-- Giving the slots of a tree back: those of the left side, those of the right side, the slot on top.
use Rattle.std.proofs.Common.{◌≡◌, ℕ, ◌+◌, ◌<◌, ◌≤◌, List, Some, Option, sym, subst, arith}
use Rattle.chunks.specs.Tree.{Tree, node, root}
use Rattle.chunks.specs.Footprint.{one, count, uses, below}
use Rattle.chunks.proofs.Footprint.{uses_node, below_few}
use Rattle.slots.specs.declared.memory.Memory.{Memory}
use Rattle.slots.specs.View.{next_of, Roomy}
use Rattle.slots.specs.Split.{Held}
use Rattle.slots.specs.Free.{Stack, Idle, Elsewhere, freed}
use Rattle.slots.proofs.Elsewhere.{elsewhere_trans, elsewhere_more, roomy_elsewhere, stack_elsewhere, held_elsewhere, count_freed}

module _ {R : Type 0} where
  -- What giving back a tree says of memory.
  abbrev pub GivenBack : Memory R → Tree → Memory R → Type 0
  GivenBack m t after =
      Elsewhere m after (uses t) × ((is : List ℕ) → Idle m is → ((j : ℕ) → uses t j + count is j ≤ below m.usable j) → Stack after after.free (freed t is))

  module _ {m : Memory R} {link : Option ℕ} {l : Tree} {i : ℕ} {r : Tree} (held : Held m link (node l i r)) (m₁ : Memory R) (first : GivenBack m l m₁) where
    pub right_held : (right : Option ℕ) → right ≡ root r → Held m₁ right r
    right_held right e =
        held_elsewhere m m₁ (uses l) first.0 right r (λ j. omega (arith, held.once j, uses_node l i r j, below_few m.usable j))
        (record { roomy = held.roomy; root_is = e; holds = held.holds.1.1; once = λ j. omega (arith, held.once j, uses_node l i r j) })

    module _ (m₂ : Memory R) (second : GivenBack m₁ r m₂) where
      both : Elsewhere m m₂ (λ j. uses l j + uses r j)
      both = elsewhere_trans m m₁ m₂ _ _ first.0 second.0

      pub top_known : Roomy m₂ × (i < m₂.usable)
      top_known = let u = both.usable in let known = held.holds.0.known in (roomy_elsewhere m m₂ _ both held.roomy, omega arith)

      pub given_node : (m₃ : Memory R) → Elsewhere m₂ m₃ (one i) → m₃.free ≡ Some i → next_of m₃ i ≡ m₂.free → GivenBack m (node l i r) m₃
      given_node m₃ third free next = (
        elsewhere_more m m₃ _ _ (λ j e. omega (arith, uses_node l i r j)) (elsewhere_trans m m₂ m₃ _ _ both third),
        λ is idle apart.
            let each : (j : ℕ) → uses l j + (one i j + uses r j) + count is j ≤ below m.usable j = λ j. omega (arith, apart j, uses_node l i r j) in
            let u = first.0.usable in
            let first-idle : Idle m₁ (freed l is) = record {
              roomy = roomy_elsewhere m m₁ _ first.0 idle.roomy;
              stack = first.1 is idle (λ j. omega (arith, each j));
              once = λ j. subst (λ z. count (freed l is) j ≤ below z j) (sym u) (omega (arith, each j, count_freed l is j));
            } in
            let second-stack = second.1 (freed l is) first-idle (λ j. subst (λ z. uses r j + count (freed l is) j ≤ below z j) (sym u) (omega (arith, each j, count_freed l is j))) in (
              free,
              subst (λ (z : Option ℕ). Stack m₃ z (freed r (freed l is))) (sym next)
                  (stack_elsewhere m₂ m₃ (one i) third m₂.free (freed r (freed l is)) (λ j. omega (arith, each j, count_freed r (freed l is) j, count_freed l is j, below_few m.usable j)) second-stack),
            ),
      )
