-- What stays true of slots that were not touched.
use Rattle.std.proofs.Common.{◌≡◌, ℕ, zero, suc, ◌+◌, ◌*◌, ◌≤◌, List, [], ◌∷◌, map, length, get_or, take, drop, set, None, Option, sym, refl, ap, ◌∙◌, subst, arith}
use Rattle.chunks.specs.Tree.{Tree, leaf, node, slots, height}
use Rattle.chunks.specs.Footprint.{one, count, uses, below}
use Rattle.chunks.specs.Cut.{joined}
use Rattle.chunks.proofs.Footprint.{one_same, one_other, uses_node}
use Rattle.std.proofs.lemmas.List.{get_or-set_other, length-set}
use Rattle.slots.specs.declared.memory.Memory.{Memory}
use Rattle.slots.specs.declared.slot.Slot.{Slot}
use Rattle.slots.specs.Claim.{Claim, nothing}
use Rattle.slots.specs.View.{size_of, next_of, chunks_of, extent_of, Roomy}
use Rattle.slots.specs.Holds.{Here, Holds, Owned}
use Rattle.slots.specs.Frame.{Frame}
use Rattle.slots.specs.Split.{Held}
use Rattle.slots.specs.Free.{Stack, Elsewhere, freed}
use Rattle.slots.proofs.Says.{says_same}
use Rattle.slots.proofs.Frame.{chunk_same}
use Rattle.slots.proofs.Text.{chunks_node}

-- Two lists that agree in one place agree there in what f sees.
seen_same : {X Y : Type 0} (f : X → Y) (e : Y) (xs ys : List X) (j : ℕ) → length ys ≡ length xs → ((d : X) → get_or ys j d ≡ get_or xs j d) → get_or (map f ys) j e ≡ get_or (map f xs) j e
seen_same f e [] [] j long same = refl
seen_same f e [] (y ∷ ys) j long same = let no : ⊥ = omega arith in absurd no
seen_same f e (x ∷ xs) [] j long same = let no : ⊥ = omega arith in absurd no
seen_same f e (x ∷ xs) (y ∷ ys) zero long same = ap f (same x)
seen_same f e (x ∷ xs) (y ∷ ys) (suc j) long same = seen_same f e xs ys j (omega arith) same

module _ {R : Type 0} where
  pub elsewhere_trans : (m n o : Memory R) (f g : ℕ → ℕ) → Elsewhere m n f → Elsewhere n o g → Elsewhere m o (λ j. f j + g j)
  elsewhere_trans m n o f g p q = record {
    usable = q.usable ∙ p.usable;
    slot_count = q.slot_count ∙ p.slot_count;
    reading_count = q.reading_count ∙ p.reading_count;
    store_count = q.store_count ∙ p.store_count;
    slot_same = λ j h d. q.slot_same j (omega arith) d ∙ p.slot_same j (omega arith) d;
    reading_same = λ j h d. q.reading_same j (omega arith) d ∙ p.reading_same j (omega arith) d;
    chunk_same = λ j h few. q.chunk_same j (omega arith) (subst (λ z. z ≤ 64) (sym (seen_same (λ s. s.size) 0 m.slots.now n.slots.now j p.slot_count (p.slot_same j (omega arith)))) few) ∙ p.chunk_same j (omega arith) few;
  }

  pub elsewhere_more : (m n : Memory R) (f g : ℕ → ℕ) → ((j : ℕ) → g j ≡ 0 → f j ≡ 0) → Elsewhere m n f → Elsewhere m n g
  elsewhere_more m n f g h p = record {
    usable = p.usable;
    slot_count = p.slot_count;
    reading_count = p.reading_count;
    store_count = p.store_count;
    slot_same = λ j e. p.slot_same j (h j e);
    reading_same = λ j e. p.reading_same j (h j e);
    chunk_same = λ j e. p.chunk_same j (h j e);
  }

  pub elsewhere_none : (m : Memory R) (f : ℕ → ℕ) → Elsewhere m m f
  elsewhere_none m f = record {
    usable = refl;
    slot_count = refl;
    reading_count = refl;
    store_count = refl;
    slot_same = λ j e d. refl;
    reading_same = λ j e d. refl;
    chunk_same = λ j e few. refl;
  }

  -- Relinking touches no other slot.
  pub elsewhere_frame : (m n : Memory R) (f : ℕ → ℕ) → Frame m n f → Elsewhere m n f
  elsewhere_frame m n f p = record {
    usable = p.usable;
    slot_count = p.slot_count;
    reading_count = p.reading_count;
    store_count = ap length p.store;
    slot_same = p.slots_apart;
    reading_same = p.readings_apart;
    chunk_same = λ j e few. ap (λ (c : ℕ → List ℕ). c j) (chunk_same m n f p);
  }

  -- Nothing was done but to the free stack's first link.
  pub elsewhere_stack : (m n : Memory R) (f : ℕ → ℕ) → n.slots.now ≡ m.slots.now → n.store.now ≡ m.store.now → n.readings.now ≡ m.readings.now → n.usable ≡ m.usable → Elsewhere m n f
  elsewhere_stack m n f slots store readings usable = record {
    usable = usable;
    slot_count = ap length slots;
    reading_count = ap length readings;
    store_count = ap length store;
    slot_same = λ j e d. ap (λ (z : List (Slot R)). get_or z j d) slots;
    reading_same = λ j e d. ap (λ (z : List R). get_or z j d) readings;
    chunk_same = λ j e few.
        let by_slots : List (Slot R) → List ℕ = λ z. take (get_or (map (λ s. s.size) z) j 0) (drop (64 * j) n.store.now) in
        let by-store : List ℕ → List ℕ = λ z. take (size_of m j) (drop (64 * j) z) in
        ap by_slots slots ∙ ap by-store store;
  }

  -- One slot was written, and at most that slot's part of the store.
  pub elsewhere_written : (m n : Memory R) (i : ℕ) (slot : Slot R) → n.slots.now ≡ set m.slots.now i slot → n.readings.now ≡ m.readings.now → n.usable ≡ m.usable →
      length n.store.now ≡ length m.store.now → ((j k : ℕ) → one i j ≡ 0 → k ≤ 64 → take k (drop (64 * j) n.store.now) ≡ take k (drop (64 * j) m.store.now)) → Elsewhere m n (one i)
  elsewhere_written m n i slot slots readings usable store part =
      let apart : (j : ℕ) → one i j ≡ 0 → (d : Slot R) → get_or n.slots.now j d ≡ get_or m.slots.now j d =
      λ j h d. ap (λ (z : List (Slot R)). get_or z j d) slots ∙ get_or-set_other m.slots.now i j slot d (λ e. one_other i j h (sym e))
      in
      let long = ap length slots ∙ length-set m.slots.now i slot in
      record {
        usable = usable;
        slot_count = long;
        reading_count = ap length readings;
        store_count = store;
        slot_same = apart;
        reading_same = λ j e d. ap (λ (z : List R). get_or z j d) readings;
        chunk_same = λ j e few.
            ap (λ k. take k (drop (64 * j) n.store.now)) (seen_same (λ s. s.size) 0 m.slots.now n.slots.now j long (apart j e)) ∙ part j (size_of m j) e few;
      }

  module _ (m n : Memory R) (f : ℕ → ℕ) (p : Elsewhere m n f) where
    pub size_elsewhere : (j : ℕ) → f j ≡ 0 → size_of n j ≡ size_of m j
    size_elsewhere j e = seen_same (λ s. s.size) 0 m.slots.now n.slots.now j p.slot_count (p.slot_same j e)

    pub next_elsewhere : (j : ℕ) → f j ≡ 0 → next_of n j ≡ next_of m j
    next_elsewhere j e = seen_same (λ s. s.next) None m.slots.now n.slots.now j p.slot_count (p.slot_same j e)

    pub roomy_elsewhere : Roomy m → Roomy n
    roomy_elsewhere roomy =
        let store = p.store_count in
        let u = p.usable in
        let s = p.slot_count in
        let r = p.reading_count in
        record { few = omega arith; slot_each = omega arith; reading_each = omega arith; store_each = omega arith }

    pub stack_elsewhere : (link : Option ℕ) (is : List ℕ) → ((j : ℕ) → count is j + f j ≤ 1) → Stack m link is → Stack n link is
    stack_elsewhere link [] apart h = h
    stack_elsewhere link (i ∷ is) apart (here, below) =
        let alone : f i ≡ 0 = omega (arith, apart i, one_same i) in
        (here, subst (λ (z : Option ℕ). Stack n z is) (sym (next_elsewhere i alone)) (stack_elsewhere (next_of m i) is (λ j. omega (arith, apart j)) below))

    pub chunks_elsewhere : (w : Claim R) (t : Tree) → ((j : ℕ) → uses t j + f j ≤ 1) → Holds w m t → chunks_of n t ≡ chunks_of m t
    chunks_elsewhere w leaf apart h = refl
    chunks_elsewhere w (node l i r) apart (here, (hl, hr)) =
        let each : (j : ℕ) → uses l j + (one i j + uses r j) + f j ≤ 1 = λ j. omega (arith, apart j, uses_node l i r j) in
        let own = p.chunk_same i (omega (arith, each i, one_same i)) here.few_bytes in
        let left = chunks_elsewhere w l (λ j. omega (arith, each j)) hl in
        let right = chunks_elsewhere w r (λ j. omega (arith, each j)) hr in
        let new = chunks_node n l i r in
        let old = chunks_node m l i r in
        cc

    here_elsewhere : (w : Claim R) (l : Tree) (i : ℕ) (r : Tree) → ((j : ℕ) → uses (node l i r) j + f j ≤ 1) → f i ≡ 0 → Holds w m (node l i r) → Here w n l i r
    here_elsewhere w l i r apart alone h =
        let here = h.0 in
        let t = node l i r in
        let text = ap joined (chunks_elsewhere w t apart h) in
        let extent : extent_of n t ≡ extent_of m t = ap (λ (k : ℕ). record { height = height t; bytes = k; chunks = length (slots t) }) (ap length text) in
        let u = p.usable in
        let k = here.known in
        record {
          known = omega arith;
          some_byte = subst (λ z. 1 ≤ z) (sym (size_elsewhere i alone)) here.some_byte;
          few_bytes = subst (λ z. z ≤ 64) (sym (size_elsewhere i alone)) here.few_bytes;
          level = here.level;
          placed = λ d.
              let same = p.slot_same i alone d in
              let was = here.placed d in
              record {
                left = ap (λ (s : Slot R). s.node.left) same ∙ was.left;
                right = ap (λ (s : Slot R). s.node.right) same ∙ was.right;
                extent = ap (λ (s : Slot R). s.node.extent) same ∙ was.extent ∙ sym extent;
                own = says_same w _ _ _ _ (sym (ap (λ (s : Slot R). s.own) same)) (sym (p.chunk_same i alone here.few_bytes)) was.own;
              };
          summed = λ d. says_same w _ _ _ _ (sym (p.reading_same i alone d)) (sym text) (here.summed d);
        }

    pub holds_elsewhere : (w : Claim R) (t : Tree) → ((j : ℕ) → uses t j + f j ≤ 1) → Holds w m t → Holds w n t
    holds_elsewhere w leaf apart h = tt
    holds_elsewhere w (node l i r) apart (here, (hl, hr)) =
        let each : (j : ℕ) → uses l j + (one i j + uses r j) + f j ≤ 1 = λ j. omega (arith, apart j, uses_node l i r j) in
        let alone : f i ≡ 0 = omega (arith, each i, one_same i) in
        (here_elsewhere w l i r apart alone (here, (hl, hr)), (holds_elsewhere w l (λ j. omega (arith, each j)) hl, holds_elsewhere w r (λ j. omega (arith, each j)) hr))

    pub held_elsewhere : (link : Option ℕ) (t : Tree) → ((j : ℕ) → uses t j + f j ≤ 1) → Held m link t → Held n link t
    held_elsewhere link t apart held = record {
      roomy = roomy_elsewhere held.roomy;
      root_is = held.root_is;
      holds = holds_elsewhere nothing t apart held.holds;
      once = λ j. subst (λ z. uses t j ≤ below z j) (sym p.usable) (held.once j);
    }

-- A slot that was not touched still keeps the reading of its chunk.
pub owned_elsewhere : {R : Type 0} (w : Claim R) (m n : Memory R) (f : ℕ → ℕ) → Elsewhere m n f → (i : ℕ) → f i ≡ 0 → size_of m i ≤ 64 → Owned w m i → Owned w n i
owned_elsewhere {R} w m n f p i alone few owned =
    record { own = λ d. says_same w _ _ _ _ (sym (ap (λ (s : Slot R). s.own) (p.slot_same i alone d))) (sym (p.chunk_same i alone few)) (owned.own d) }

-- What is free then is what was free and what the tree used.
pub count_freed : (t : Tree) (is : List ℕ) (j : ℕ) → count (freed t is) j ≡ uses t j + count is j
count_freed leaf is j = omega arith
count_freed (node l i r) is j = omega (arith, count_freed r (freed l is) j, count_freed l is j, uses_node l i r j)
