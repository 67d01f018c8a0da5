-- What joining two trees of any heights rests on: where it goes down, and how high the tree is then.
use Rattle.std.proofs.Common.{◌≡◌, ℕ, suc, ◌<◌, ◌≤◌, max, List, [], ◌∷◌, map, length, get_or, Some, Option, sym, ap, ◌∙◌, subst, ⊎_elim, arith}
use Rattle.std.proofs.lemmas.Bool.{cases_lt}
use Rattle.std.proofs.lemmas.List.{get_or-map}
use Rattle.measure.specs.Measure.{Measure}
use Rattle.chunks.specs.declared.side.Side.{Side}
use Rattle.chunks.specs.Tree.{Tree, leaf, node, root, height}
use Rattle.chunks.specs.Sides.{around}
use Rattle.chunks.proofs.Sides.{height_around}
use Rattle.slots.specs.declared.memory.Memory.{Memory}
use Rattle.slots.specs.declared.slot.Slot.{Slot}
use Rattle.slots.specs.declared.slot.Extent.{Extent}
use Rattle.slots.specs.Claim.{nothing}
use Rattle.slots.specs.View.{height_at, Roomy}
use Rattle.slots.specs.Holds.{Holds, Ready}
use Rattle.slots.specs.Join.{Linked, Joined, Settled, Grown}
use Rattle.slots.proofs.Turning.{parts, joined_linked, ready_inner, ready_outer, joined_over}
use Rattle.slots.proofs.Rotating.{Seen}

-- What holds of an element for every default holds of the list of what f sees.
pub at_any : {X Y : Type 0} (xs : List X) (i : ℕ) → i < length xs → (f : X → Y) (e : Y) {h : Y} → ((d : X) → f (get_or xs i d) ≡ h) → get_or (map f xs) i e ≡ h
at_any [] i within f e is = let no : ⊥ = omega arith in absurd no
at_any (x ∷ xs) i within f e is = get_or-map f (x ∷ xs) i x e within ∙ is x

module _ {R : Type 0} where
  -- The height that memory says is the tree's.
  pub height_held : (m : Memory R) → Roomy m → (t : Tree) (link : Option ℕ) → link ≡ root t → Holds nothing m t → height_at m link ≡ height t
  height_held m roomy leaf link e h = ap (height_at m) e
  height_held m roomy (node l i r) link e (here, _) =
      let room = roomy.slot_each in
      let known = here.known in
      ap (height_at m) e ∙ at_any m.slots.now i (omega arith) (λ (s : Slot R). s.node.extent.height) 0 (λ d. ap (λ (x : Extent). x.height) (here.placed d).extent)

  -- A slot between two trees that are settled by one link.
  pub settled_linked : {μ : Measure R} {s : Side} {m : Memory R} {a : Tree} {i : ℕ} {b : Tree} {after : Memory R} → Linked μ s m a i b after → Settled μ s m a i b after (around s a i b)
  settled_linked {s = s} {a = a} {i = i} {b = b} l = record { joined = joined_linked l; exact = λ _. height_around s a i b }

  -- Going down on the near side.
  module _ {m : Memory R} {s : Side} {outer : Option ℕ} {inner : Option ℕ} {near-link : Option ℕ} {a : Tree} {i : ℕ} {far-link : Option ℕ} {b : Tree} (k : ℕ)
      (ready : Ready m near-link a i far-link b) (v : Seen m s outer inner k a) (steep : suc (height b) < height a) where
    ready_open : Ready m near-link (around s v.o k v.n) i far-link b
    ready_open = subst (λ (z : Tree). Ready m near-link z i far-link b) v.is ready

    pub down_ready : Ready m inner v.n i far-link b
    down_ready = ready_inner s m near-link v.o k v.n i far-link b ready_open inner v.inner_root

    pub down_lower : height v.n < height a
    down_lower = omega (arith, ap height v.is, height_around s v.o k v.n)

    module _ {μ : Measure R} (m₁ : Memory R) (t₁ : Tree) (r : ℕ) (top : Some r ≡ root t₁) (first : Joined μ s m v.n i b m₁ t₁) where
      down_heights : (height a ≡ suc (max (height v.o) (height v.n))) × ((height v.o ≤ suc (height v.n)) × ((height v.n ≤ suc (height v.o)) × ((height v.n ≤ height t₁) × (height t₁ ≤ suc (height v.n)))))
      down_heights =
          let p = parts nothing m s v.o k v.n ready_open.near_holds in
          let near = p.near_low in
          let far = p.far_low in
          let whole : height a ≡ suc (max (height v.o) (height v.n)) = ap height v.is ∙ height_around s v.o k v.n in
          (whole, (near, (far, (first.over_near, first.high (height v.n) (omega arith) (omega arith)))))

      pub down_grown : Grown m₁ outer v.o k (Some r) t₁
      down_grown =
          let h = down_heights in
          record {
            ready = ready_outer s m near-link v.o k v.n i far-link b ready_open m₁ t₁ first outer v.outer_root r top;
            far_low = omega arith;
            near_low = omega arith;
          }

      pub down_joined : (m₂ : Memory R) (t₂ : Tree) → Settled μ s m₁ v.o k t₁ m₂ t₂ → Joined μ s m a i b m₂ t₂
      down_joined m₂ t₂ second =
          let h = down_heights in
          let whole = ap height v.is in
          let over = second.joined.over_far in
          let most : height v.o ≤ height t₁ → height t₂ ≤ suc (height t₁) = λ e. second.joined.high (height t₁) e (omega arith) in
          let bounds : (height a ≤ height t₂) × (height t₂ ≤ suc (height a)) =
          ⊎_elim (λ e. let flat = second.exact (omega arith) in (omega arith, omega arith)) (λ e. let tall = most (omega arith) in (omega arith, omega arith)) (cases_lt (height t₁) (suc (suc (height v.o))))
          in
          subst (λ (z : Tree). Joined μ s m z i b m₂ t₂) (sym v.is)
          (joined_over s m near-link v.o k v.n i far-link b ready_open m₁ t₁ first m₂ t₂ second.joined (omega (arith, bounds)) (omega (arith, bounds)) (λ q e f. omega (arith, bounds)))

-- A tree is higher than its sides.
pub node_higher : {t l : Tree} {i : ℕ} {r : Tree} → t ≡ node l i r → (height l < height t) × (height r < height t)
node_higher is = let e = ap height is in (omega arith, omega arith)
