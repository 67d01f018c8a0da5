-- What writing chunks over others rests on: the tree is as it was, and what its slots say is right again.
use Rattle.std.proofs.Common.{◌≡◌, ℕ, suc, ◌+◌, ◌<◌, ◌≤◌, ◌⊎◌, List, ◌∷◌, ◌++◌, length, Option, sym, refl, ap, ◌∙◌, subst, ⊎_elim, arith}
use Rattle.std.proofs.lemmas.List.{length-map}
use Rattle.measure.specs.Measure.{Measure}
use Rattle.chunks.specs.declared.side.Side.TheVariants.{Left}
use Rattle.chunks.specs.Tree.{Tree, node, root, slots, Level}
use Rattle.chunks.specs.Footprint.{one, uses, below}
use Rattle.chunks.specs.Over.{renewed, over}
use Rattle.chunks.proofs.Footprint.{one_same, uses_node, below_few}
use Rattle.chunks.proofs.Overwriting.{over_append, over_before, over_behind}
use Rattle.slots.specs.declared.memory.Memory.{Memory}
use Rattle.slots.specs.Claim.{Claim, nothing, Fair}
use Rattle.slots.specs.View.{size_of, chunk_of, chunks_of, Roomy}
use Rattle.slots.specs.Holds.{Holds, Owned, Ready}
use Rattle.slots.specs.Join.{Linked}
use Rattle.slots.specs.Split.{Held}
use Rattle.slots.specs.Free.{Elsewhere}
use Rattle.slots.specs.Rewrite.{Renewed, Rewritten}
use Rattle.slots.proofs.Frame.{chunks_same}
use Rattle.slots.proofs.Text.{chunks_node}
use Rattle.slots.proofs.Elsewhere.{elsewhere_trans, elsewhere_more, elsewhere_none, elsewhere_frame, size_elsewhere, roomy_elsewhere, chunks_elsewhere, holds_elsewhere, held_elsewhere, owned_elsewhere}

module _ {R : Type 0} {μ : Measure R} {m : Memory R} (t : Tree) (n : ℕ) (bytes : List ℕ) (count from to : ℕ) where
  -- Outside the run nothing is to be done.
  pub rewritten_not : (n + length (slots t) ≤ from) ⊎ ((from < n + length (slots t)) × (to ≤ n)) → Rewritten μ m t n bytes count from to m
  rewritten_not out = record {
    elsewhere = elsewhere_none m (uses t);
    free = refl;
    chunks_are =
        let long = length-map (slots t) (chunk_of m) in
        sym (⊎_elim (λ h. over_before bytes count from to n (chunks_of m t) (omega arith)) (λ h. over_behind bytes count from to n (chunks_of m t) h.1) out);
    keeps = λ w fair h. h;
  }

module _ {R : Type 0} {μ : Measure R} {m : Memory R} {link : Option ℕ} {l : Tree} {i : ℕ} {r : Tree} (held : Held m link (node l i r)) (n : ℕ) (bytes : List ℕ) (count from to : ℕ)
    {m₁ : Memory R} (first : Rewritten μ m l n bytes count from to m₁) where
  each : (j : ℕ) → uses l j + (one i j + uses r j) ≤ below m.usable j
  each j = omega (arith, held.once j, uses_node l i r j)

  own_apart : uses l i ≡ 0
  own_apart = omega (arith, each i, one_same i, below_few m.usable i)

  rest_apart : uses r i ≡ 0
  rest_apart = omega (arith, each i, one_same i, below_few m.usable i)

  pub own_ready : (Roomy m₁) × ((i < m₁.usable) × ((1 ≤ size_of m₁ i) × (size_of m₁ i ≤ 64)))
  own_ready =
      let here = held.holds.0 in
      let size = size_elsewhere m m₁ _ first.elsewhere i own_apart in (
        roomy_elsewhere m m₁ _ first.elsewhere held.roomy,
        (subst (λ z. i < z) (sym first.elsewhere.usable) here.known, (subst (λ z. 1 ≤ z) (sym size) here.some_byte, subst (λ z. z ≤ 64) (sym size) here.few_bytes)),
      )

  module _ (at : ℕ) {m₂ : Memory R} (second : Renewed μ m₁ i at bytes count from to m₂) where
    both : Elsewhere m m₂ (λ j. uses l j + one i j)
    both = elsewhere_trans m m₁ m₂ _ _ first.elsewhere second.elsewhere

    right_apart : (j : ℕ) → uses r j + (uses l j + one i j) ≤ 1
    right_apart j = omega (arith, each j, below_few m.usable j)

    pub right_held : (right : Option ℕ) → right ≡ root r → Held m₂ right r
    right_held right e =
        held_elsewhere m m₂ _ both right r right_apart (record { roomy = held.roomy; root_is = e; holds = held.holds.1.1; once = λ j. omega (arith, each j) })

    module _ (next : ℕ) {m₃ : Memory R} (third : Rewritten μ m₂ r next bytes count from to m₃) where
      later : Elsewhere m₁ m₃ (λ j. one i j + uses r j)
      later = elsewhere_trans m₁ m₂ m₃ _ _ second.elsewhere third.elsewhere

      left_apart : (j : ℕ) → uses l j + (one i j + uses r j) ≤ 1
      left_apart j = omega (arith, each j, below_few m.usable j)

      left_holds : (w : Claim R) → Fair w μ → Holds w m (node l i r) → Holds w m₃ l
      left_holds w fair h = holds_elsewhere m₁ m₃ _ later w l left_apart (first.keeps w fair h.1.0)

      right_holds : (w : Claim R) → Fair w μ → Holds w m (node l i r) → Holds w m₃ r
      right_holds w fair h = third.keeps w fair (holds_elsewhere m m₂ _ both w r right_apart h.1.1)

      own_owned : (w : Claim R) → Fair w μ → Holds w m (node l i r) → Owned w m₃ i
      own_owned w fair h =
          owned_elsewhere w m₂ m₃ _ third.elsewhere i rest_apart second.few_bytes
          (second.keeps w fair (owned_elsewhere w m m₁ _ first.elsewhere i own_apart held.holds.0.few_bytes (record { own = λ d. (h.0.placed d).own })))

      last : Elsewhere m m₃ (λ j. uses l j + one i j + uses r j)
      last = elsewhere_trans m m₂ m₃ _ _ both third.elsewhere

      pub link_ready : (left right : Option ℕ) → left ≡ root l → right ≡ root r → Ready m₃ left l i right r × Level l r
      link_ready left right e f =
          let size = size_elsewhere m₂ m₃ _ third.elsewhere i rest_apart in (
            record {
              roomy = roomy_elsewhere m m₃ _ last held.roomy;
              known = subst (λ z. i < z) (sym last.usable) held.holds.0.known;
              near_root = e;
              far_root = f;
              near_holds = left_holds nothing tt held.holds;
              far_holds = right_holds nothing tt held.holds;
              once = λ j. subst (λ z. uses l j + (one i j + uses r j) ≤ below z j) (sym last.usable) (each j);
              some_byte = subst (λ z. 1 ≤ z) (sym size) second.some_byte;
              few_bytes = subst (λ z. z ≤ 64) (sym size) second.few_bytes;
            },
            held.holds.0.level,
          )

      pub rewritten_node : at ≡ n + length (slots l) → next ≡ at + 1 → {m₄ : Memory R} → Linked μ Left m₃ l i r m₄ → Rewritten μ m (node l i r) n bytes count from to m₄
      rewritten_node at-is next-is {m₄} linked =
          let o = over bytes count from to in
          let ready-chunks = chunks_same m₃ m₄ _ linked.frame (node l i r) in
          let split-new = chunks_node m₃ l i r in
          let split-old = chunks_node m l i r in
          let left = chunks_elsewhere m₁ m₃ _ later nothing l left_apart (first.keeps nothing tt held.holds.1.0) ∙ first.chunks_are in
          let old-own = first.elsewhere.chunk_same i own_apart held.holds.0.few_bytes in
          let own = third.elsewhere.chunk_same i rest_apart second.few_bytes ∙ second.chunk_is ∙ ap (renewed bytes count from to at) old-own in
          let old-right = chunks_elsewhere m m₂ _ both nothing r right_apart held.holds.1.1 in
          let right = third.chunks_are ∙ ap (o next) old-right in
          let whole = over_append bytes count from to n (chunks_of m l) (chunk_of m i ∷ chunks_of m r) in
          let place : n + length (chunks_of m l) ≡ at = omega (arith, length-map (slots l) (chunk_of m)) in
          let behind : suc at ≡ next = omega arith in
          record {
            elsewhere = elsewhere_more m m₄ _ _ (λ j e. omega (arith, uses_node l i r j)) (elsewhere_trans m m₃ m₄ _ _ last (elsewhere_frame m₃ m₄ _ linked.frame));
            free = linked.frame.free ∙ third.free ∙ second.free ∙ first.free;
            chunks_are =
                ready-chunks ∙ split-new
                ∙ ap (λ z. z ++ (chunk_of m₃ i ∷ chunks_of m₃ r)) left
                ∙ ap (λ z. o n (chunks_of m l) ++ (z ∷ chunks_of m₃ r)) own
                ∙ ap (λ z. o n (chunks_of m l) ++ (renewed bytes count from to at (chunk_of m i) ∷ z)) right
                ∙ ap (λ k. o n (chunks_of m l) ++ (renewed bytes count from to at (chunk_of m i) ∷ o k (chunks_of m r))) (sym behind)
                ∙ ap (λ k. o n (chunks_of m l) ++ (renewed bytes count from to k (chunk_of m i) ∷ o (suc k) (chunks_of m r))) (sym place)
                ∙ sym whole
                ∙ ap (o n) (sym split-old);
            keeps = λ w fair h. linked.keeps w fair (left_holds w fair h) (right_holds w fair h) (own_owned w fair h);
          }
