-- What cutting a tree rests on: at a slot, one side is cut, and the slot joins what is left of it with the other side.
use Rattle.std.proofs.Common.{◌≡◌, ℕ, suc, ◌+◌, ◌-◌, ◌<◌, ◌≤◌, List, [], ◌∷◌, ◌++◌, length, take, drop, Some, None, Option, IsSome, sym, refl, ap, ◌∙◌, subst, arith}
use Rattle.std.proofs.lemmas.List.{take-append-drop, take-append-le, drop-append-le, length-append, length-drop, append_assoc, nil_from_length}
use Rattle.std.proofs.Math.Seq.{take-append-add, drop-append-add}
use Rattle.measure.specs.Measure.{Measure}
use Rattle.chunks.specs.declared.side.Side.TheVariants.{Left}
use Rattle.chunks.specs.Tree.{Tree, leaf, node, root, slots, height}
use Rattle.chunks.specs.Footprint.{one, count, uses, below}
use Rattle.chunks.proofs.Footprint.{count_append, uses_node, below_few}
use Rattle.chunks.proofs.Sides.{leaf_if_none, opened}
use Rattle.slots.specs.declared.memory.Memory.{Memory}
use Rattle.slots.specs.Claim.{Claim, nothing}
use Rattle.slots.specs.View.{size_of, height_at}
use Rattle.slots.specs.Holds.{Holds, Owned, Ready}
use Rattle.slots.specs.Join.{Joined}
use Rattle.slots.specs.Split.{Held, Apart, Halved, Appended}
use Rattle.slots.proofs.Frame.{frame_trans, frame_more, roomy_same}
use Rattle.slots.proofs.Holds.{holds_frame, owned_frame, ready_frame}
use Rattle.slots.proofs.Joining.{height_held}

take_behind : (xs ys : List ℕ) (i at n : ℕ) → n ≡ length xs → n < at → take at (xs ++ (i ∷ ys)) ≡ xs ++ (i ∷ take (at - n - 1) ys)
take_behind xs ys i at n is h = let e : at ≡ length xs + suc (at - n - 1) = omega arith in ap (λ k. take k (xs ++ (i ∷ ys))) e ∙ take-append-add xs (i ∷ ys) (suc (at - n - 1))

drop_behind : (xs ys : List ℕ) (i at n : ℕ) → n ≡ length xs → n < at → drop at (xs ++ (i ∷ ys)) ≡ drop (at - n - 1) ys
drop_behind xs ys i at n is h = let e : at ≡ length xs + suc (at - n - 1) = omega arith in ap (λ k. drop k (xs ++ (i ∷ ys))) e ∙ drop-append-add xs (i ∷ ys) (suc (at - n - 1))

-- The two sides of the slot that a link leads to.
pub sides : {R : Type 0} {m : Memory R} {link : Option ℕ} {i : ℕ} {t : Tree} → link ≡ Some i → Held m link t → (l : Tree) × ((r : Tree) × ((t ≡ node l i r) × Held m link (node l i r)))
sides {m} {link} {i} {t} is held =
    let p = opened Left t i (sym is ∙ held.root_is) in
    (p.0, (p.1.0, (p.1.1, subst (λ (z : Tree). Held m link z) p.1.1 held)))

module _ {R : Type 0} {m : Memory R} {link : Option ℕ} {l : Tree} {i : ℕ} {r : Tree} (held : Held m link (node l i r)) where
  pub held_left : (left : Option ℕ) → left ≡ root l → Held m left l
  held_left left e = record { roomy = held.roomy; root_is = e; holds = held.holds.1.0; once = λ j. omega (arith, held.once j, uses_node l i r j) }

  pub held_right : (right : Option ℕ) → right ≡ root r → Held m right r
  held_right right e = record { roomy = held.roomy; root_is = e; holds = held.holds.1.1; once = λ j. omega (arith, held.once j, uses_node l i r j) }

-- The height that memory says of a tree that it holds.
pub held_height : {R : Type 0} {m : Memory R} {link : Option ℕ} {t : Tree} → Held m link t → height_at m link ≡ height t
held_height {m} {link} {t} held = height_held m held.roomy t link held.root_is held.holds

-- What the slot on top of a tree has on its two sides, once memory was asked.
pub record Halves {R : Type 0} (m : Memory R) (link left right : Option ℕ) (i : ℕ) (t : Tree) : Type 0 where
  pub l : Tree
  pub r : Tree
  pub is : t ≡ node l i r
  pub top : Held m link (node l i r)
  pub left_held : Held m left l
  pub right_held : Held m right r
  pub left_lower : height_at m left < height_at m link
  pub right_lower : height_at m right < height_at m link

pub halves : {R : Type 0} {m : Memory R} {link left right : Option ℕ} {i : ℕ} {t : Tree} → link ≡ Some i → Held m link t → ((a b : Tree) → Holds nothing m (node a i b) → left ≡ root a) →
    ((b a : Tree) → Holds nothing m (node a i b) → right ≡ root b) → Halves m link left right i t
halves {m} {link} {left} {right} is held left-is right-is =
    let p = sides is held in
    let top = p.1.1.1 in
    let near = held_left top left (left-is p.0 p.1.0 top.holds) in
    let far = held_right top right (right-is p.1.0 p.0 top.holds) in
    let whole = held_height top in
    let low = held_height near in
    let high = held_height far in
    record { l = p.0; r = p.1.0; is = p.1.1.0; top = top; left_held = near; right_held = far; left_lower = omega arith; right_lower = omega arith }

module _ {R : Type 0} {μ : Measure R} where
  -- Both parts of a tree use what the tree uses.
  pub halved_uses : {m after : Memory R} {t : Tree} {at : ℕ} {a b : Tree} → Halved μ m t at after a b → (j : ℕ) → uses a j + uses b j ≡ uses t j
  halved_uses {t} {at} {a} {b} h j =
      let front = ap (λ l. count l j) h.front in
      let back = ap (λ l. count l j) h.back in
      let both = count_append (take at (slots t)) (drop at (slots t)) j in
      let all = ap (λ l. count l j) (take-append-drop at (slots t)) in
      omega arith

  module _ {m : Memory R} {link : Option ℕ} {l : Tree} {i : ℕ} {r : Tree} (held : Held m link (node l i r)) where
    -- The left side is cut.
    module _ (at n : ℕ) (count : n ≡ length (slots l)) (within : at ≤ n) {m₁ : Memory R} {a b : Tree} (cut : Halved μ m l at m₁ a b) where
      right_stays : (w : Claim R) → Holds w m r → Holds w m₁ r
      right_stays w h = holds_frame w m m₁ _ cut.frame r (λ j. omega (arith, held.once j, uses_node l i r j, below_few m.usable j)) h

      pub left_ready : (rest right : Option ℕ) → rest ≡ root b → right ≡ root r → Ready m₁ rest b i right r
      left_ready rest right e f =
          let here = held.holds.0 in
          ready_frame m m₁ _ cut.frame held.roomy i (here.known, (here.some_byte, here.few_bytes)) e f (cut.keeps nothing tt held.holds.1.0).1 (right_stays nothing held.holds.1.1) (λ j. omega (arith, held.once j, uses_node l i r j, halved_uses cut j))

      pub left_halved : {m₂ : Memory R} {t : Tree} → Joined μ Left m₁ b i r m₂ t → Halved μ m (node l i r) at m₂ a t
      left_halved {m₂} {t} joined = record {
        frame = frame_more m m₂ _ _ (λ j e. omega (arith, uses_node l i r j, halved_uses cut j)) (frame_trans m m₁ m₂ _ _ cut.frame joined.frame);
        front = cut.front ∙ sym (take-append-le at (slots l) (i ∷ slots r) (omega arith));
        back = joined.order ∙ ap (λ z. z ++ (i ∷ slots r)) cut.back ∙ sym (drop-append-le at (slots l) (i ∷ slots r) (omega arith));
        keeps = λ w fair h.
            let both = cut.keeps w fair h.1.0 in (
              holds_frame w m₁ m₂ _ joined.frame a (λ j. omega (arith, held.once j, uses_node l i r j, halved_uses cut j, below_few m.usable j)) both.0,
              joined.keeps w fair both.1 (right_stays w h.1.1) (owned_frame w m m₁ _ cut.frame i (record { own = λ d. (h.0.placed d).own })),
            );
      }

    -- The right side is cut.
    module _ (at n : ℕ) (count : n ≡ length (slots l)) (beyond : n < at) {m₁ : Memory R} {a b : Tree} (cut : Halved μ m r (at - n - 1) m₁ a b) where
      left_stays : (w : Claim R) → Holds w m l → Holds w m₁ l
      left_stays w h = holds_frame w m m₁ _ cut.frame l (λ j. omega (arith, held.once j, uses_node l i r j, below_few m.usable j)) h

      pub right_ready : (left first : Option ℕ) → left ≡ root l → first ≡ root a → Ready m₁ left l i first a
      right_ready left first e f =
          let here = held.holds.0 in
          ready_frame m m₁ _ cut.frame held.roomy i (here.known, (here.some_byte, here.few_bytes)) e f (left_stays nothing held.holds.1.0) (cut.keeps nothing tt held.holds.1.1).0 (λ j. omega (arith, held.once j, uses_node l i r j, halved_uses cut j))

      pub right_halved : {m₂ : Memory R} {t : Tree} → Joined μ Left m₁ l i a m₂ t → Halved μ m (node l i r) at m₂ t b
      right_halved {m₂} {t} joined = record {
        frame = frame_more m m₂ _ _ (λ j e. omega (arith, uses_node l i r j, halved_uses cut j)) (frame_trans m m₁ m₂ _ _ cut.frame joined.frame);
        front = joined.order ∙ ap (λ z. slots l ++ (i ∷ z)) cut.front ∙ sym (take_behind (slots l) (slots r) i at n count beyond);
        back = cut.back ∙ sym (drop_behind (slots l) (slots r) i at n count beyond);
        keeps = λ w fair h.
            let both = cut.keeps w fair h.1.1 in (
              joined.keeps w fair (left_stays w h.1.0) both.0 (owned_frame w m m₁ _ cut.frame i (record { own = λ d. (h.0.placed d).own })),
              holds_frame w m₁ m₂ _ joined.frame b (λ j. omega (arith, held.once j, uses_node l i r j, halved_uses cut j, below_few m.usable j)) both.1,
            );
      }

-- The last slot of a tree, cut off from the others.
last_alone : (z : Tree) (k : ℕ) → Some k ≡ root z → length (slots z) ≡ 1 → slots z ≡ k ∷ []
last_alone leaf k e h = let y : ◌≡◌ {A = ℕ} 0 1 = cc in let no : ⊥ = omega arith in absurd no
last_alone (node l i r) k e h =
    let same : i ≡ k = cc in
    let long = length-append (slots l) (i ∷ slots r) in
    let left = nil_from_length (slots l) (omega arith) in
    let right = nil_from_length (slots r) (omega arith) in
    ap (λ z. z ++ (i ∷ slots r)) left ∙ ap (λ z. i ∷ z) right ∙ ap (λ n. n ∷ []) same

here_of : {R : Type 0} (w : Claim R) (m : Memory R) (z : Tree) (k : ℕ) → Some k ≡ root z → Holds w m z → (Owned w m k) × ((k < m.usable) × ((1 ≤ size_of m k) × (size_of m k ≤ 64)))
here_of w m leaf k e h = let y : ◌≡◌ {A = ℕ} 0 1 = cc in let no : ⊥ = omega arith in absurd no
here_of w m (node l i r) k e (here, _) =
    let same : i ≡ k = cc in (
      subst (Owned w m) same (record { own = λ d. (here.placed d).own }),
      (subst (λ n. n < m.usable) same here.known, (subst (λ n. 1 ≤ size_of m n) same here.some_byte, subst (λ n. size_of m n ≤ 64) same here.few_bytes)),
    )

module _ {R : Type 0} {m : Memory R} {first : Option ℕ} {a : Tree} {rest : Option ℕ} {b : Tree} (apart : Apart m first a rest b) where
  pub held_first : Held m first a
  held_first = record { roomy = apart.roomy; root_is = apart.first_root; holds = apart.first_holds; once = λ j. omega (arith, apart.once j) }

  module _ {μ : Measure R} (at : ℕ) (is : suc at ≡ length (slots a)) {m₁ : Memory R} {f z : Tree} (cut : Halved μ m a at m₁ f z) where
    last_one : length (slots z) ≡ 1
    last_one = ap length cut.back ∙ length-drop at (slots a) ∙ omega arith

    pub last_some : (last : Option ℕ) → last ≡ root z → IsSome last
    last_some (Some k) e = refl
    last_some None e =
        let none = leaf_if_none z e in
        let zero-long = ap (λ (t : Tree). length (slots t)) none in
        let no : ⊥ = omega (arith, last_one) in
        absurd no

    module _ (k : ℕ) (top : Some k ≡ root z) where
      whole : slots a ≡ slots f ++ (k ∷ [])
      whole = sym (take-append-drop at (slots a)) ∙ ap (λ l. l ++ drop at (slots a)) (sym cut.front) ∙ ap (λ l. slots f ++ l) (sym cut.back ∙ last_alone z k top last_one)

      counted : (j : ℕ) → uses a j ≡ uses f j + (one k j + 0)
      counted j = ap (λ l. count l j) whole ∙ count_append (slots f) (k ∷ []) j

      rest_stays : (w : Claim R) → Holds w m b → Holds w m₁ b
      rest_stays w h = holds_frame w m m₁ _ cut.frame b (λ j. omega (arith, apart.once j, below_few m.usable j)) h

      pub append_ready : (front : Option ℕ) → front ≡ root f → Ready m₁ front f k rest b
      append_ready front e =
          let both = cut.keeps nothing tt apart.first_holds in
          let here = here_of nothing m₁ z k top both.1 in
          let u = cut.frame.usable in
          record {
            roomy = roomy_same m m₁ _ cut.frame apart.roomy;
            known = here.1.0;
            near_root = e;
            far_root = apart.rest_root;
            near_holds = both.0;
            far_holds = rest_stays nothing apart.rest_holds;
            once = λ j. subst (λ n. uses f j + (one k j + uses b j) ≤ below n j) (sym u) (omega (arith, apart.once j, counted j));
            some_byte = here.1.1.0;
            few_bytes = here.1.1.1;
          }

      pub append_joined : {m₂ : Memory R} {t : Tree} → Joined μ Left m₁ f k b m₂ t → Appended μ m a b m₂ t
      append_joined {m₂} {t} joined = record {
        frame = frame_more m m₂ _ _ (λ j e. omega (arith, counted j)) (frame_trans m m₁ m₂ _ _ cut.frame joined.frame);
        order = joined.order ∙ sym (append_assoc (slots f) (k ∷ []) (slots b)) ∙ ap (λ l. l ++ slots b) (sym whole);
        keeps = λ w fair ha hb.
            let both = cut.keeps w fair ha in
            joined.keeps w fair both.0 (rest_stays w hb) (here_of w m₁ z k top both.1).0;
      }
