-- What linking one slot between two trees rests on.
use Rattle.std.proofs.Common.{◌≡◌, ℕ, suc, ◌+◌, ◌*◌, ◌≤◌, max, [], ◌∷◌, ◌++◌, length, get_or, Some, None, Option, sym, refl, ap, ◌∙◌, subst, arith}
use Rattle.std.proofs.lemmas.List.{length-append}
use Rattle.measure.specs.Measure.{Measure}
use Rattle.chunks.specs.declared.side.Side.TheVariants.{Left}
use Rattle.chunks.specs.Tree.{Tree, leaf, node, slots, root, height, Level}
use Rattle.chunks.specs.Footprint.{one}
use Rattle.chunks.proofs.Footprint.{uses_node, few_below, below_few}
use Rattle.slots.specs.declared.memory.Memory.{Memory}
use Rattle.slots.specs.declared.slot.Node.{Node}
use Rattle.slots.specs.declared.slot.Extent.{Extent}
use Rattle.slots.specs.Claim.{Claim, nothing, Says, Fair}
use Rattle.slots.specs.View.{size_of, chunk_of, text_of, extent_of}
use Rattle.slots.specs.Holds.{Here, Holds, Owned, Ready}
use Rattle.slots.specs.Frame.{Frame}
use Rattle.slots.specs.Join.{Linked, PlacedAnew}
use Rattle.slots.proofs.Says.{says_same}
use Rattle.slots.proofs.Text.{text_node, chunk_length}
use Rattle.slots.proofs.Frame.{size_same, text_same, extent_same}
use Rattle.slots.proofs.Holds.{low_held, short_held, holds_frame, owned_frame}

-- What a tree's extent says, number by number.
extent_says : {R : Type 0} (m : Memory R) (t : Tree) {e : Extent} → e ≡ extent_of m t → (e.height ≡ height t) × ((e.bytes ≡ length (text_of m t)) × (e.chunks ≡ length (slots t)))
extent_says m t p = (ap (λ (x : Extent). x.height) p, (ap (λ (x : Extent). x.bytes) p, ap (λ (x : Extent). x.chunks) p))

module _ {R : Type 0} {m : Memory R} {near : Option ℕ} {a : Tree} {i : ℕ} {far : Option ℕ} {b : Tree} (ready : Ready m near a i far b) where
  -- There are at most 4,096 slots in all, and both trees are low.
  pub ready_few : length (slots a) + suc (length (slots b)) ≤ 4096
  ready_few =
      let few = ready.roomy.few in
      omega (arith, few_below m.usable (slots (node a i b)) (λ j. omega (arith, uses_node a i b j, ready.once j)), length-append (slots a) (i ∷ slots b))

  pub ready_near_low : height a ≤ 16
  ready_near_low = low_held nothing m ready.roomy a ready.near_holds (λ j. omega (arith, ready.once j))

  pub ready_far_low : height b ≤ 16
  ready_far_low = low_held nothing m ready.roomy b ready.far_holds (λ j. omega (arith, ready.once j))

  pub ready_near_short : length (text_of m a) ≤ 64 * length (slots a)
  ready_near_short = short_held nothing m ready.roomy a ready.near_holds

  pub ready_far_short : length (text_of m b) ≤ 64 * length (slots b)
  ready_far_short = short_held nothing m ready.roomy b ready.far_holds

  module _ (size : ℕ) (is : size ≡ size_of m i) (e f : Extent) (p : e ≡ extent_of m a) (q : f ≡ extent_of m b) (top : ℕ) (h : top ≡ max e.height f.height) where
    -- What the slot makes with both trees can be counted.
    pub over_fits : (top ≤ 16) × ((e.bytes + size + f.bytes ≤ 262144) × (e.chunks + 1 + f.chunks ≤ 4096))
    over_fits =
        let few_bytes = ready.few_bytes in
        let near = extent_says m a p in
        let far = extent_says m b q in
        (omega (arith, ready_near_low, ready_far_low), (omega (arith, ready_few, ready_near_short, ready_far_short), omega (arith, ready_few)))

    -- The extent of both trees with the slot between them.
    pub extent_over : record { height = 1 + top; bytes = e.bytes + size + f.bytes; chunks = e.chunks + 1 + f.chunks } ≡ extent_of m (node a i b)
    extent_over =
        let near = extent_says m a p in
        let far = extent_says m b q in
        let long = ap length (text_node m a i b) ∙ length-append (text_of m a) (chunk_of m i ++ text_of m b) in
        let rest = length-append (chunk_of m i) (text_of m b) in
        let own = chunk_length m ready.roomy i ready.known ready.few_bytes in
        let many = length-append (slots a) (i ∷ slots b) in
        let heights : 1 + top ≡ height (node a i b) = omega arith in
        let bytes : e.bytes + size + f.bytes ≡ length (text_of m (node a i b)) = omega arith in
        let chunks : e.chunks + 1 + f.chunks ≡ length (slots (node a i b)) = omega arith in
        λ k. record { height = heights k; bytes = bytes k; chunks = chunks k }

-- A tree's reading is where its root says.
module _ {R : Type 0} (m : Memory R) (w : Claim R) where
  pub summed_at : (t : Tree) (k : ℕ) → Some k ≡ root t → Holds w m t → (v : R) → v ≡ get_or m.readings.now k v → Says w v (text_of m t)
  summed_at leaf k e h v is = let z : ◌≡◌ {A = ℕ} 0 1 = cc in let no : ⊥ = omega arith in absurd no
  summed_at (node l i r) k e (here, _) v is =
      let same : i ≡ k = cc in
      says_same w _ _ _ _ (ap (λ n. get_or m.readings.now n v) same ∙ sym is) refl (here.summed v)

  pub none_text : (t : Tree) → None ≡ root t → text_of m t ≡ []
  none_text leaf e = refl
  none_text (node l i r) e = let z : ◌≡◌ {A = ℕ} 0 1 = cc in let no : ⊥ = omega arith in absurd no

-- The slot between two trees, once its place and the reading are written.
module _ {R : Type 0} (μ : Measure R) {m : Memory R} {left : Option ℕ} {l : Tree} {i : ℕ} {right : Option ℕ} {r : Tree} (ready : Ready m left l i right r) (level : Level l r)
    (after : Memory R) (extent : Extent) (is : extent ≡ extent_of m (node l i r)) (sum : R)
    (sums : (w : Claim R) → Fair w μ → Holds w m l → Holds w m r → Owned w m i → Says w sum (text_of m (node l i r)))
    (anew : PlacedAnew m i (record { left = left; right = right; extent = extent }) sum after) where
  p : Frame m after (one i)
  p = anew.frame

  here_after : (w : Claim R) → Says w sum (text_of m (node l i r)) → Owned w m i → Here w after l i r
  unfolding p
  here_after w says owned =
      let t = node l i r in
      let u = p.usable in
      let k = ready.known in
      record {
        known = omega arith;
        some_byte = subst (λ z. 1 ≤ z) (sym (size_same m after (one i) p i)) ready.some_byte;
        few_bytes = subst (λ z. z ≤ 64) (sym (size_same m after (one i) p i)) ready.few_bytes;
        level = level;
        placed = λ d. record {
          left = ap (λ (n : Node). n.left) (anew.place_is d) ∙ ready.near_root;
          right = ap (λ (n : Node). n.right) (anew.place_is d) ∙ ready.far_root;
          extent = ap (λ (n : Node). n.extent) (anew.place_is d) ∙ is ∙ sym (extent_same m after (one i) p t);
          own = (owned_frame w m after (one i) p i owned).own d;
        };
        summed = λ d. says_same w _ _ _ _ (sym (anew.sum_is d)) (sym (text_same m after (one i) p t)) says;
      }

  pub linked : Linked μ Left m l i r after
  unfolding p
  linked = record {
    frame = p;
    keeps = λ w fair hl hr owned. (
      here_after w (sums w fair hl hr owned) owned,
      (holds_frame w m after (one i) p l (λ j. omega (arith, ready.once j, below_few m.usable j)) hl, holds_frame w m after (one i) p r (λ j. omega (arith, ready.once j, below_few m.usable j)) hr),
    );
  }
