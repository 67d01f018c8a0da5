-- A tree that leans is put right: once, with its top kept, or twice, with its inner tree's top on top.
use Rattle.std.proofs.Common.{◌≡◌, ℕ, suc, ◌+◌, ◌<◌, ◌≤◌, true, false, Some, None, Option, is_some, sym, ap, ◌∙◌, subst, arith}
use Rattle.measure.specs.Measure.{Measure}
use Rattle.chunks.specs.declared.side.Side.{Side}
use Rattle.chunks.specs.Tree.{Tree, root, height, Level}
use Rattle.chunks.specs.Sides.{other, around}
use Rattle.chunks.proofs.Sides.{height_around, root_around, opened}
use Rattle.slots.specs.declared.memory.Memory.{Memory}
use Rattle.slots.specs.Claim.{nothing}
use Rattle.slots.specs.Holds.{Holds, Ready}
use Rattle.slots.specs.Join.{Linked, Joined, Leaning, Steep}
use Rattle.slots.proofs.Turning.{parts, holds_turned, joined_linked, ready_inner, ready_outer, joined_over, ready_first, ready_second, ready_third, joined_twice}

module _ {R : Type 0} {m : Memory R} {s : Side} {outer : Option ℕ} {o : Tree} {k : ℕ} {inner : Option ℕ} {n : Tree} {i : ℕ} {short : Option ℕ} {b : Tree}
    (lean : Leaning m s outer o k inner n i short b) (flat : height n ≤ height o) where
  once_heights : (height o ≡ suc (height b)) × ((height b ≤ height n) × (height n ≤ suc (height b)))
  once_heights =
      let far = (parts nothing m s o k n lean.ready.near_holds).near_low in
      let h = height_around s o k n in
      let two = lean.two_higher in
      (omega arith, (omega arith, omega arith))

  pub once_first : Ready m inner n i short b × Level n b
  once_first = let h = once_heights in (ready_inner s m (Some k) o k n i short b lean.ready inner lean.inner_root, record { left_low = omega arith; right_low = omega arith })

  module _ {μ : Measure R} (m₁ : Memory R) (first : Linked μ s m n i b m₁) where
    pub once_second : Ready m₁ outer o k (Some i) (around s n i b) × Level o (around s n i b)
    once_second =
        let h = once_heights in
        let new = height_around s n i b in (
          ready_outer s m (Some k) o k n i short b lean.ready m₁ (around s n i b) (joined_linked first) outer lean.outer_root i (sym (root_around s n i b)),
          record { left_low = omega arith; right_low = omega arith },
        )

    pub once_joined : (m₂ : Memory R) → Linked μ s m₁ o k (around s n i b) m₂ → Joined μ s m (around s o k n) i b m₂ (around s o k (around s n i b))
    once_joined m₂ second =
        let h = once_heights in
        let two = lean.two_higher in
        let new = height_around s n i b in
        let top = height_around s o k (around s n i b) in
        joined_over s m (Some k) o k n i short b lean.ready m₁ (around s n i b) (joined_linked first) m₂ (around s o k (around s n i b)) (joined_linked second)
        (omega arith) (omega arith) (λ q e f. omega arith)

module _ {R : Type 0} {m : Memory R} {s : Side} {outer : Option ℕ} {o : Tree} {k : ℕ} (x : Tree) {j : ℕ} (y : Tree) {i : ℕ} {short : Option ℕ} {b : Tree}
    (lean : Leaning m s outer o k (Some j) (around s x j y) i short b) (steep : height o < height (around s x j y)) where
  twice_heights : (height o ≡ height b) × ((height x ≤ height b) × ((height y ≤ height b) × ((height b ≤ suc (height x)) × (height b ≤ suc (height y)))))
  twice_heights =
      let p = parts nothing m s o k (around s x j y) lean.ready.near_holds in
      let q = parts nothing m s x j y p.far in
      let h = height_around s o k (around s x j y) in
      let hn = height_around s x j y in
      let two = lean.two_higher in
      let far = p.far_low in
      let near-inner = q.near_low in
      let far-inner = q.far_low in
      (omega arith, (omega arith, (omega arith, (omega arith, omega arith))))

  pub twice_first : (link : Option ℕ) → link ≡ root x → Ready m outer o k link x × Level o x
  twice_first link e =
      let h = twice_heights in
      (ready_first s m (Some k) o k x j y i short b lean.ready outer link lean.outer_root e, record { left_low = omega arith; right_low = omega arith })

  module _ {μ : Measure R} (m₁ : Memory R) (first : Linked μ s m o k x m₁) where
    pub twice_second : (link : Option ℕ) → link ≡ root y → Ready m₁ link y i short b × Level y b
    twice_second link e =
        let h = twice_heights in
        (ready_second s m (Some k) o k x j y i short b lean.ready m₁ first link e, record { left_low = omega arith; right_low = omega arith })

    module _ (m₂ : Memory R) (second : Linked μ s m₁ y i b m₂) where
      pub twice_third : Ready m₂ (Some k) (around s o k x) j (Some i) (around s y i b) × Level (around s o k x) (around s y i b)
      twice_third =
          let h = twice_heights in
          let left = height_around s o k x in
          let right = height_around s y i b in
          (ready_third s m (Some k) o k x j y i short b lean.ready m₁ first m₂ second, record { left_low = omega arith; right_low = omega arith })

      pub twice_joined : (m₃ : Memory R) → Linked μ s m₂ (around s o k x) j (around s y i b) m₃ →
          Joined μ s m (around s o k (around s x j y)) i b m₃ (around s (around s o k x) j (around s y i b))
      twice_joined m₃ third =
          let h = twice_heights in
          let two = lean.two_higher in
          let left = height_around s o k x in
          let right = height_around s y i b in
          let top = height_around s (around s o k x) j (around s y i b) in
          joined_twice s m (Some k) o k x j y i short b lean.ready m₁ first m₂ second m₃ third (omega arith) (omega arith) (λ z e f. omega arith)

pub leaning : {R : Type 0} {m : Memory R} {k : ℕ} {i : ℕ} {short : Option ℕ} {s : Side} {a b : Tree} {outer inner : Option ℕ} {o n : Tree} → Ready m (Some k) a i short b → height a ≡ suc (suc (height b)) →
    a ≡ around s o k n → outer ≡ root o → inner ≡ root n → Leaning m s outer o k inner n i short b
leaning {m = m} {k = k} {i = i} {short = short} {b = b} ready two is e f =
    record { ready = subst (λ (z : Tree). Ready m (Some k) z i short b) is ready; outer_root = e; inner_root = f; two_higher = sym (ap height is) ∙ two }

-- What the two sides of slot k are, once memory was asked.
pub record Seen {R : Type 0} (m : Memory R) (s : Side) (outer inner : Option ℕ) (k : ℕ) (a : Tree) : Type 0 where
  pub o : Tree
  pub n : Tree
  pub is : a ≡ around s o k n
  pub outer_root : outer ≡ root o
  pub inner_root : inner ≡ root n
  pub near : Holds nothing m o
  pub far : Holds nothing m n

module _ {R : Type 0} {m : Memory R} {s s' : Side} (turn : s' ≡ other s) {outer inner : Option ℕ} {k : ℕ}
    (outer-is : (a b : Tree) → Holds nothing m (around s a k b) → outer ≡ root a) (inner-is : (a b : Tree) → Holds nothing m (around s' a k b) → inner ≡ root a) where
  pub seen : (a : Tree) → Some k ≡ root a → Holds nothing m a → Seen m s outer inner k a
  seen a top h =
      let p = opened s a k top in
      let o = p.0 in
      let n = p.1.0 in
      let whole : Holds nothing m (around s o k n) = subst (Holds nothing m) p.1.1 h in
      record {
        o = o;
        n = n;
        is = p.1.1;
        outer_root = outer-is o n whole;
        inner_root = inner-is n o (holds_turned nothing m s s' o k n turn whole);
        near = (parts nothing m s o k n whole).near;
        far = (parts nothing m s o k n whole).far;
      }

-- The inner tree is the higher: it has a top.
module _ {R : Type 0} {m : Memory R} {s : Side} {outer : Option ℕ} {o : Tree} {k : ℕ} {inner : Option ℕ} {n : Tree} {i : ℕ} {short : Option ℕ} {b : Tree} (lean : Leaning m s outer o k inner n i short b) where
  pub steeply : (j : ℕ) → Some j ≡ root n → height o < height n →
      (x : Tree) × ((y : Tree) × ((n ≡ around s x j y) × (Leaning m s outer o k (Some j) (around s x j y) i short b × (height o < height (around s x j y)))))
  steeply j top steep =
      let p = opened s n j top in
      let x = p.0 in
      let y = p.1.0 in
      let is = p.1.1 in (
        x,
        (
          y,
          (
            is,
            (
              record {
                ready = subst (λ (z : Tree). Ready m (Some k) (around s o k z) i short b) is lean.ready;
                outer_root = lean.outer_root;
                inner_root = sym (root_around s x j y);
                two_higher = subst (λ (z : Tree). height (around s o k z) ≡ suc (suc (height b))) is lean.two_higher;
              },
              subst (λ (z : Tree). height o < height z) is steep,
            ),
          ),
        ),
      )

-- A tree is higher than another by more than `by` where it has a top for that, and is not where it has none.
module _ (n o : Tree) (by : ℕ) (top : Option ℕ) (steep : Steep n o by top) where
  pub steep_higher : is_some top ≡ true → by + height o < height n
  steep_higher found = elim top as (λ v. Steep n o by v → is_some v ≡ true → by + height o < height n) [ Some j ↦ λ s e. s.1 | None ↦ λ s e. cc ] steep found

  pub steep_lower : is_some top ≡ false → height n ≤ by + height o
  steep_lower found = elim top as (λ v. Steep n o by v → is_some v ≡ false → height n ≤ by + height o) [ Some j ↦ λ s e. cc | None ↦ λ s e. s ] steep found
