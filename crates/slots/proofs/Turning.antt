-- What joining trees by relinking rests on, seen from either side.
use Rattle.std.proofs.Common.{◌≡◌, ℕ, suc, ◌+◌, ◌<◌, ◌≤◌, Some, Option, sym, ap, ◌∙◌, subst, arith}
use Rattle.measure.specs.Measure.{Measure}
use Rattle.chunks.specs.declared.side.Side.{Side}
use Rattle.chunks.specs.declared.side.Side.TheVariants.{Left, Right}
use Rattle.chunks.specs.Tree.{Tree, slots, root, height, Level}
use Rattle.chunks.specs.Footprint.{one, uses, below, count}
use Rattle.chunks.specs.Sides.{other, around, run}
use Rattle.chunks.proofs.Footprint.{below_few}
use Rattle.chunks.proofs.Sides.{slots_around, height_around, uses_around, count_run, run_turned, run_assoc, around_turned, root_around}
use Rattle.slots.specs.declared.memory.Memory.{Memory}
use Rattle.slots.specs.Claim.{Claim, nothing, Fair}
use Rattle.slots.specs.View.{size_of}
use Rattle.slots.specs.Holds.{Holds, Owned, Ready}
use Rattle.slots.specs.Frame.{Frame}
use Rattle.slots.specs.Join.{Linked, Joined}
use Rattle.slots.proofs.Frame.{frame_trans, frame_more}
use Rattle.slots.proofs.Holds.{holds_frame, owned_frame, ready_frame}

-- A tree taken apart at its top.
pub record Parts {R : Type 0} (w : Claim R) (m : Memory R) (a : Tree) (i : ℕ) (b : Tree) : Type 0 where
  pub near : Holds w m a
  pub far : Holds w m b
  pub owned : Owned w m i
  pub near_low : height a ≤ suc (height b)
  pub far_low : height b ≤ suc (height a)
  pub own : (i < m.usable) × ((1 ≤ size_of m i) × (size_of m i ≤ 64))

module _ {R : Type 0} where
  pub parts : (w : Claim R) (m : Memory R) (s : Side) (a : Tree) (i : ℕ) (b : Tree) → Holds w m (around s a i b) → Parts w m a i b
  parts w m Left a i b (here, (ha, hb)) = record {
    near = ha;
    far = hb;
    owned = record { own = λ d. (here.placed d).own };
    near_low = here.level.left_low;
    far_low = here.level.right_low;
    own = (here.known, (here.some_byte, here.few_bytes));
  }
  parts w m Right a i b (here, (hb, ha)) = record {
    near = ha;
    far = hb;
    owned = record { own = λ d. (here.placed d).own };
    near_low = here.level.right_low;
    far_low = here.level.left_low;
    own = (here.known, (here.some_byte, here.few_bytes));
  }

  pub ready_turned : {m : Memory R} {near : Option ℕ} {a : Tree} {i : ℕ} {far : Option ℕ} {b : Tree} → Ready m near a i far b → Ready m far b i near a
  ready_turned ready = record {
    roomy = ready.roomy;
    known = ready.known;
    near_root = ready.far_root;
    far_root = ready.near_root;
    near_holds = ready.far_holds;
    far_holds = ready.near_holds;
    once = λ j. omega (arith, ready.once j);
    some_byte = ready.some_byte;
    few_bytes = ready.few_bytes;
  }

  pub joined_turned : {μ : Measure R} {s s' : Side} {m : Memory R} {a : Tree} {i : ℕ} {b : Tree} {after : Memory R} {t : Tree} → s' ≡ other s → Joined μ s' m b i a after t → Joined μ s m a i b after t
  joined_turned {s = s} {m = m} {a = a} {i = i} {b = b} {after = after} turn j = record {
    frame = frame_more m after _ _ (λ k e. omega arith) j.frame;
    order = j.order ∙ ap (λ (z : Side). run z (slots b) i (slots a)) turn ∙ run_turned s (slots a) i (slots b);
    over_near = j.over_far;
    over_far = j.over_near;
    high = λ n p q. j.high n q p;
    keeps = λ w fair ha hb owned. j.keeps w fair hb ha owned;
  }

  -- One slot linked between two level trees joins them.
  pub joined_linked : {μ : Measure R} {s : Side} {m : Memory R} {a : Tree} {i : ℕ} {b : Tree} {after : Memory R} → Linked μ s m a i b after → Joined μ s m a i b after (around s a i b)
  joined_linked {s = s} {m = m} {a = a} {i = i} {b = b} {after = after} l =
      let top = height_around s a i b in
      record {
        frame = frame_more m after _ _ (λ k e. omega arith) l.frame;
        order = slots_around s a i b;
        over_near = omega arith;
        over_far = omega arith;
        high = λ n p q. omega arith;
        keeps = l.keeps;
      }

  pub linked_turned : {μ : Measure R} {m : Memory R} {a : Tree} {i : ℕ} {b : Tree} {after : Memory R} → Linked μ Left m b i a after → Linked μ Right m a i b after
  linked_turned l = record { frame = l.frame; keeps = λ w fair ha hb owned. l.keeps w fair hb ha owned }

  -- The slot k goes out of the way: its inner tree n is joined with i and b first, then k is put back on top.
  module _ (s : Side) (m : Memory R) (near : Option ℕ) (o : Tree) (k : ℕ) (n : Tree) (i : ℕ) (far : Option ℕ) (b : Tree)
      (ready : Ready m near (around s o k n) i far b) where
    once : (j : ℕ) → uses o j + (one k j + uses n j) + (one i j + uses b j) ≤ below m.usable j
    once j = omega (arith, ready.once j, uses_around s o k n j)

    pub ready_inner : (inner : Option ℕ) → inner ≡ root n → Ready m inner n i far b
    ready_inner inner e = record {
      roomy = ready.roomy;
      known = ready.known;
      near_root = e;
      far_root = ready.far_root;
      near_holds = (parts nothing m s o k n ready.near_holds).far;
      far_holds = ready.far_holds;
      once = λ j. omega (arith, once j);
      some_byte = ready.some_byte;
      few_bytes = ready.few_bytes;
    }

    module _ {μ : Measure R} (m₁ : Memory R) (t₁ : Tree) (first : Joined μ s m n i b m₁ t₁) where
      moved : (j : ℕ) → uses t₁ j ≡ uses n j + (one i j + uses b j)
      moved j = ap (λ l. count l j) first.order ∙ count_run s (slots n) i (slots b) j

      outer_stays : (w : Claim R) → Holds w m o → Holds w m₁ o
      outer_stays w h = holds_frame w m m₁ _ first.frame o (λ j. omega (arith, once j, below_few m.usable j)) h

      pub ready_outer : (outer : Option ℕ) → outer ≡ root o → (r : ℕ) → Some r ≡ root t₁ → Ready m₁ outer o k (Some r) t₁
      ready_outer outer e r top =
          let p = parts nothing m s o k n ready.near_holds in
          ready_frame m m₁ _ first.frame ready.roomy k p.own e top (outer_stays nothing p.near) (first.keeps nothing tt p.far ready.far_holds (record { own = λ d. tt })) (λ j. omega (arith, once j, moved j))

      pub joined_over : (m₂ : Memory R) (t₂ : Tree) → Joined μ s m₁ o k t₁ m₂ t₂ → height (around s o k n) ≤ height t₂ → height b ≤ height t₂ →
          ((h : ℕ) → height (around s o k n) ≤ h → height b ≤ h → height t₂ ≤ suc h) → Joined μ s m (around s o k n) i b m₂ t₂
      joined_over m₂ t₂ second over_near over_far high = record {
        frame = frame_more m m₂ _ _ (λ j e. omega (arith, uses_around s o k n j, moved j)) (frame_trans m m₁ m₂ _ _ first.frame second.frame);
        order = second.order ∙ ap (run s (slots o) k) first.order ∙ sym (run_assoc s (slots o) k (slots n) i (slots b)) ∙ ap (λ l. run s l i (slots b)) (sym (slots_around s o k n));
        over_near = over_near;
        over_far = over_far;
        high = high;
        keeps = λ w fair h hb owned.
            let p = parts w m s o k n h in
            second.keeps w fair (outer_stays w p.near) (first.keeps w fair p.far hb owned) (owned_frame w m m₁ _ first.frame k p.owned);
      }

  -- The inner tree's own top j goes to the top of all, with k on one side of it and i on the other.
  module _ (s : Side) (m : Memory R) (near : Option ℕ) (o : Tree) (k : ℕ) (x : Tree) (j : ℕ) (y : Tree) (i : ℕ) (far : Option ℕ) (b : Tree)
      (ready : Ready m near (around s o k (around s x j y)) i far b) where
    once_twice : (q : ℕ) → uses o q + (one k q + (uses x q + (one j q + uses y q))) + (one i q + uses b q) ≤ below m.usable q
    once_twice q = omega (arith, ready.once q, uses_around s o k (around s x j y) q, uses_around s x j y q)

    outer_parts : (w : Claim R) → Holds w m (around s o k (around s x j y)) → Parts w m o k (around s x j y)
    outer_parts w h = parts w m s o k (around s x j y) h

    inner_parts : (w : Claim R) → Holds w m (around s o k (around s x j y)) → Parts w m x j y
    inner_parts w h = parts w m s x j y (outer_parts w h).far

    pub ready_first : (outer inner : Option ℕ) → outer ≡ root o → inner ≡ root x → Ready m outer o k inner x
    ready_first outer inner e f =
        let p = outer_parts nothing ready.near_holds in
        record {
          roomy = ready.roomy;
          known = p.own.0;
          near_root = e;
          far_root = f;
          near_holds = p.near;
          far_holds = (inner_parts nothing ready.near_holds).near;
          once = λ q. omega (arith, once_twice q);
          some_byte = p.own.1.0;
          few_bytes = p.own.1.1;
        }

    module _ {μ : Measure R} (m₁ : Memory R) (first : Linked μ s m o k x m₁) where
      stays₁ : (w : Claim R) (t : Tree) → ((q : ℕ) → uses t q + one k q ≤ 1) → Holds w m t → Holds w m₁ t
      stays₁ w t apart h = holds_frame w m m₁ _ first.frame t apart h

      y_apart : (q : ℕ) → uses y q + one k q ≤ 1
      y_apart q = omega (arith, once_twice q, below_few m.usable q)

      b_apart : (q : ℕ) → uses b q + one k q ≤ 1
      b_apart q = omega (arith, once_twice q, below_few m.usable q)

      pub ready_second : (inner : Option ℕ) → inner ≡ root y → Ready m₁ inner y i far b
      ready_second inner e =
          ready_frame m m₁ _ first.frame ready.roomy i (ready.known, (ready.some_byte, ready.few_bytes)) e ready.far_root (stays₁ nothing y y_apart (inner_parts nothing ready.near_holds).far) (stays₁ nothing b b_apart ready.far_holds)
          (λ q. omega (arith, once_twice q))

      module _ (m₂ : Memory R) (second : Linked μ s m₁ y i b m₂) where
        both : Frame m m₂ (λ q. one k q + one i q)
        both = frame_trans m m₁ m₂ _ _ first.frame second.frame

        -- The two new sides, as they are in the end.
        near_side : (w : Claim R) → Fair w μ → Holds w m (around s o k (around s x j y)) → Holds w m₂ (around s o k x)
        near_side w fair h =
            let p = outer_parts w h in
            let q = inner_parts w h in
            holds_frame w m₁ m₂ _ second.frame (around s o k x) (λ z. omega (arith, uses_around s o k x z, once_twice z, below_few m.usable z)) (first.keeps w fair p.near q.near p.owned)

        far_side : (w : Claim R) → Fair w μ → Holds w m (around s o k (around s x j y)) → Holds w m b → Owned w m i → Holds w m₂ (around s y i b)
        far_side w fair h hb owned =
            second.keeps w fair (stays₁ w y y_apart (inner_parts w h).far) (stays₁ w b b_apart hb) (owned_frame w m m₁ _ first.frame i owned)

        pub ready_third : Ready m₂ (Some k) (around s o k x) j (Some i) (around s y i b)
        ready_third =
            let p = inner_parts nothing ready.near_holds in
            ready_frame m m₂ _ both ready.roomy j p.own (sym (root_around s o k x)) (sym (root_around s y i b)) (near_side nothing tt ready.near_holds)
            (far_side nothing tt ready.near_holds ready.far_holds (record { own = λ d. tt })) (λ q. omega (arith, uses_around s o k x q, uses_around s y i b q, once_twice q))

        module _ (m₃ : Memory R) (third : Linked μ s m₂ (around s o k x) j (around s y i b) m₃) where
          abbrev pub t₃ : Tree
          t₃ = around s (around s o k x) j (around s y i b)

          pub joined_twice : height (around s o k (around s x j y)) ≤ height t₃ → height b ≤ height t₃ →
              ((h : ℕ) → height (around s o k (around s x j y)) ≤ h → height b ≤ h → height t₃ ≤ suc h) →
              Joined μ s m (around s o k (around s x j y)) i b m₃ (around s (around s o k x) j (around s y i b))
          joined_twice over_near over_far high = record {
            frame = frame_more m m₃ _ _ (λ q e. omega (arith, uses_around s o k (around s x j y) q, uses_around s x j y q)) (frame_trans m m₂ m₃ _ _ both third.frame);
            order = twice_order;
            over_near = over_near;
            over_far = over_far;
            high = high;
            keeps = λ w fair h hb owned.
                third.keeps w fair (near_side w fair h) (far_side w fair h hb owned) (owned_frame w m m₂ _ both j (inner_parts w h).owned);
          }
            where
              twice_order : slots (around s (around s o k x) j (around s y i b)) ≡ run s (slots (around s o k (around s x j y))) i (slots b)
              twice_order =
                  let a₁ = slots_around s (around s o k x) j (around s y i b) in
                  let a₂ = slots_around s o k x in
                  let a₃ = slots_around s y i b in
                  let a₄ = slots_around s o k (around s x j y) in
                  let a₅ = slots_around s x j y in
                  let r₁ = run_assoc s (run s (slots o) k (slots x)) j (slots y) i (slots b) in
                  let r₂ = run_assoc s (slots o) k (slots x) j (slots y) in
                  cc

pub level_turned : {a b : Tree} → Level a b → Level b a
level_turned l = record { left_low = l.right_low; right_low = l.left_low }

-- The same tree, its other side named first.
pub holds_turned : {R : Type 0} (w : Claim R) (m : Memory R) (s s' : Side) (a : Tree) (i : ℕ) (b : Tree) → s' ≡ other s → Holds w m (around s a i b) → Holds w m (around s' b i a)
holds_turned w m s s' a i b e h = subst (Holds w m) (sym (ap (λ (z : Side). around z b i a) e ∙ around_turned s a i b)) h
