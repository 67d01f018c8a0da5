-- A tree made of free slots: one side, a slot with its chunk, the other side, joined.
use Rattle.std.proofs.Common.{◌≡◌, ℕ, suc, ◌+◌, ◌<◌, ◌≤◌, List, [], ◌∷◌, ◌++◌, map, length, get_or, take, drop, Option, sym, refl, ap, ◌∙◌, subst, add-one, arith}
use Rattle.std.proofs.Math.Seq.{take-append-add, drop-append-add}
use Rattle.std.proofs.lemmas.List.{take-append-drop, length-take-le, length-drop, drop_more, map-append}
use Rattle.measure.specs.Measure.{Measure}
use Rattle.chunks.specs.declared.side.Side.TheVariants.{Left}
use Rattle.chunks.specs.Tree.{Tree, leaf, root, slots}
use Rattle.chunks.specs.Footprint.{one, count, uses, below}
use Rattle.chunks.specs.Cut.{Chunk, part, chunk_at}
use Rattle.chunks.proofs.Cut.{part_split}
use Rattle.chunks.proofs.Footprint.{one_same, count_append, below_few, first_below}
use Rattle.slots.specs.declared.memory.Memory.{Memory}
use Rattle.slots.specs.Claim.{Claim, nothing, Fair}
use Rattle.slots.specs.View.{size_of, chunk_of, chunks_of}
use Rattle.slots.specs.Holds.{Holds, Ready}
use Rattle.slots.specs.Join.{Joined}
use Rattle.slots.specs.Free.{Stack, Idle, Elsewhere, Stored, Built}
use Rattle.slots.proofs.Frame.{chunk_same}
use Rattle.slots.proofs.Elsewhere.{elsewhere_trans, elsewhere_more, elsewhere_none, elsewhere_frame, size_elsewhere, roomy_elsewhere, stack_elsewhere, chunks_elsewhere, holds_elsewhere, owned_elsewhere}

-- Some free slots first, one, and some more.
module _ (is : List ℕ) (h : ℕ) (i : ℕ) (js : List ℕ) (r : ℕ) (next : drop h is ≡ i ∷ js) (enough : h ≤ length is) where
  front_is : is ≡ take h is ++ (i ∷ js)
  front_is = sym (take-append-drop h is) ∙ ap (λ l. take h is ++ l) next

  sum : h + suc r ≡ length (take h is) + suc r
  sum = let e = length-take-le h is enough in omega arith

  pub take_both : take (h + suc r) is ≡ take h is ++ (i ∷ take r js)
  take_both = ap (λ n. take n is) sum ∙ ap (take (length (take h is) + suc r)) front_is ∙ take-append-add (take h is) (i ∷ js) (suc r)

  pub drop_both : drop (h + suc r) is ≡ drop r js
  drop_both = ap (λ n. drop n is) sum ∙ ap (drop (length (take h is) + suc r)) front_is ∙ drop-append-add (take h is) (i ∷ js) (suc r)

  pub count_all : (j : ℕ) → count is j ≡ count (take h is) j + (one i j + count js j)
  count_all j = ap (λ l. count l j) front_is ∙ count_append (take h is) (i ∷ js) j

-- Slots that were not used yet are a part of what was free.
pub idle_rest : {R : Type 0} {m : Memory R} {is : List ℕ} (idle : Idle m is) (n : ℕ) {after : Memory R} → Elsewhere m after (count (take n is)) → Stack after after.free (drop n is) → Idle after (drop n is)
idle_rest {m} {is} idle n {after} there stack = record {
  roomy = roomy_elsewhere m after _ there idle.roomy;
  stack = stack;
  once = λ j. subst (λ z. count (drop n is) j ≤ below z j) (sym there.usable)
      (omega (arith, idle.once j, count_append (take n is) (drop n is) j, ap (λ l. count l j) (take-append-drop n is)));
}

pub built_none : {R : Type 0} {μ : Measure R} {m : Memory R} {is : List ℕ} → Idle m is → Built μ m is 0 [] m leaf
built_none {m = m} idle = record { elsewhere = elsewhere_none m _; stack = idle.stack; used = λ j. refl; chunks_are = refl; holds = λ w fair. tt }

module _ {R : Type 0} {μ : Measure R} {m : Memory R} {is : List ℕ} (idle : Idle m is) {n : ℕ} (room : n ≤ length is) (h r : ℕ) (cut-is : n ≡ h + suc r)
    {cs : List (List ℕ)} {m₁ : Memory R} {a : Tree} (left : Built μ m is h cs m₁ a) where
  i : ℕ
  i = get_or is h 0

  js : List ℕ
  js = drop (h + 1) is

  next : drop h is ≡ i ∷ js
  unfolding i js
  next = drop_more is h 0 (omega arith)

  pub second_idle : Idle m₁ (get_or is h 0 ∷ drop (h + 1) is)
  unfolding i js
  second_idle = subst (Idle m₁) next (idle_rest idle h left.elsewhere left.stack)

  module _ {bytes : List ℕ} (fits : Chunk bytes) {m₂ : Memory R} (own : Stored μ m₁ (get_or is h 0) (drop (h + 1) is) bytes m₂) where
    pub third_idle : Idle m₂ (drop (h + 1) is) × (r ≤ length (drop (h + 1) is))
    third_idle = (
      record {
        roomy = roomy_elsewhere m₁ m₂ _ own.elsewhere second_idle.roomy;
        stack = own.stack;
        once = λ j. subst (λ z. count (drop (h + 1) is) j ≤ below z j) (sym own.elsewhere.usable) (omega (arith, second_idle.once j));
      },
      omega (arith, length-drop (h + 1) is),
    )

    module _ {ds : List (List ℕ)} {m₃ : Memory R} {b : Tree} (right : Built μ m₂ (drop (h + 1) is) r ds m₃ b) where
      all : (j : ℕ) → count is j ≡ count (take h is) j + (one i j + count js j)
      all j = count_all is h i js r next (omega arith) j

      part_of : (j : ℕ) → count (take r js) j ≤ count js j
      part_of j = omega (arith, count_append (take r js) (drop r js) j, ap (λ l. count l j) (take-append-drop r js))

      -- What the sides and the slot use is apart.
      each : (j : ℕ) → uses a j + (one i j + uses b j) ≤ below m.usable j
      unfolding i js
      each j = omega (arith, idle.once j, all j, part_of j, left.used j, right.used j)

      later : Elsewhere m₁ m₃ (λ j. one i j + count (take r js) j)
      unfolding i js
      later = elsewhere_trans m₁ m₂ m₃ _ _ own.elsewhere right.elsewhere

      last : Elsewhere m m₃ (λ j. count (take h is) j + (one i j + count (take r js) j))
      last = elsewhere_trans m m₁ m₃ _ _ left.elsewhere later

      left_apart : (j : ℕ) → uses a j + (one i j + count (take r js) j) ≤ 1
      unfolding i js
      left_apart j = omega (arith, each j, right.used j, below_few m.usable j)

      own_apart : count (take r js) i ≡ 0
      unfolding i js
      own_apart = omega (arith, each i, one_same i, right.used i, below_few m.usable i)

      left_holds : (w : Claim R) → Fair w μ → Holds w m₃ a
      left_holds w fair = holds_elsewhere m₁ m₃ _ later w a left_apart (left.holds w fair)

      own_size : size_of m₃ i ≡ length bytes
      unfolding i js
      own_size = size_elsewhere m₂ m₃ _ right.elsewhere (get_or is h 0) own_apart ∙ own.size_is

      own_chunk : chunk_of m₃ i ≡ bytes
      unfolding i js
      own_chunk = right.elsewhere.chunk_same (get_or is h 0) own_apart (subst (λ z. z ≤ 64) (sym own.size_is) fits.few_bytes) ∙ own.chunk_is

      ready_at : {first rest : Option ℕ} → first ≡ root a → rest ≡ root b → Ready m₃ first a (get_or is h 0) rest b
      unfolding i js
      ready_at e f = record {
        roomy = roomy_elsewhere m m₃ _ last idle.roomy;
        known = subst (λ z. get_or is h 0 < z) (sym later.usable) (first_below m₁.usable (get_or is h 0) (drop (h + 1) is) second_idle.once);
        near_root = e;
        far_root = f;
        near_holds = left_holds nothing tt;
        far_holds = right.holds nothing tt;
        once = λ j. subst (λ z. uses a j + (one (get_or is h 0) j + uses b j) ≤ below z j) (sym last.usable) (each j);
        some_byte = subst (λ z. 1 ≤ z) (sym own_size) fits.some_byte;
        few_bytes = subst (λ z. z ≤ 64) (sym own_size) fits.few_bytes;
      }

      pub built_ready : {k : ℕ} → k ≡ get_or is h 0 → {first rest : Option ℕ} → first ≡ root a → rest ≡ root b → Ready m₃ first a k rest b
      built_ready k-is {first} {rest} e f = subst (λ z. Ready m₃ first a z rest b) (sym k-is) (ready_at e f)

      pub built_joined : {k : ℕ} → k ≡ get_or is h 0 → {m₄ : Memory R} {t : Tree} → Joined μ Left m₃ a k b m₄ t → Built μ m is (h + suc r) (cs ++ (bytes ∷ ds)) m₄ t
      unfolding i js
      built_joined k-is {m₄} {t} joined-at =
          let joined = subst (λ z. Joined μ Left m₃ a z b m₄ t) k-is joined-at in
          let used : (j : ℕ) → uses t j ≡ uses a j + (one (get_or is h 0) j + uses b j) = λ j. ap (λ l. count l j) joined.order ∙ count_append (slots a) (get_or is h 0 ∷ slots b) j in
          let taken : (j : ℕ) → count (take (h + suc r) is) j ≡ count (take h is) j + (one (get_or is h 0) j + count (take r (drop (h + 1) is)) j) =
          λ j. ap (λ l. count l j) (take_both is h _ _ r next (omega arith)) ∙ count_append (take h is) (get_or is h 0 ∷ take r (drop (h + 1) is)) j
          in
          let frame = elsewhere_frame m₃ m₄ _ joined.frame in
          let chunks = chunk_same m₃ m₄ _ joined.frame in
          let rest_apart : (j : ℕ) → count (drop r (drop (h + 1) is)) j + (uses a j + (one (get_or is h 0) j + uses b j)) ≤ 1 =
          λ j. omega (arith, idle.once j, all j, count_append (take r (drop (h + 1) is)) (drop r (drop (h + 1) is)) j, ap (λ l. count l j) (take-append-drop r (drop (h + 1) is)), left.used j, right.used j, below_few m.usable j)
          in
          let first_chunks : chunks_of m₃ a ≡ cs = chunks_elsewhere m₁ m₃ _ later nothing a left_apart (left.holds nothing tt) ∙ left.chunks_are in
          let own-one = own_chunk in
          let rest-chunks = right.chunks_are in
          let pieces : chunks_of m₃ a ++ (chunk_of m₃ (get_or is h 0) ∷ chunks_of m₃ b) ≡ cs ++ (bytes ∷ ds) = cc in
          record {
            elsewhere = elsewhere_more m m₄ _ _ (λ j e. omega (arith, taken j, left.used j, right.used j)) (elsewhere_trans m m₃ m₄ _ _ last frame);
            stack =
                subst (λ (l : List ℕ). Stack m₄ m₄.free l) (sym (drop_both is h _ _ r next (omega arith)))
                (subst (λ (z : Option ℕ). Stack m₄ z (drop r (drop (h + 1) is))) (sym joined.frame.free)
                (stack_elsewhere m₃ m₄ _ frame m₃.free (drop r (drop (h + 1) is)) rest_apart right.stack));
            used = λ j. omega (arith, used j, taken j, left.used j, right.used j);
            chunks_are =
                ap (λ (c : ℕ → List ℕ). map c (slots t)) chunks
                ∙ ap (map (chunk_of m₃)) joined.order
                ∙ map-append (chunk_of m₃) (slots a) (get_or is h 0 ∷ slots b)
                ∙ pieces;
            holds = λ w fair. joined.keeps w fair (left_holds w fair) (right.holds w fair) (owned_elsewhere w m₂ m₃ _ right.elsewhere (get_or is h 0) own_apart (subst (λ z. z ≤ 64) (sym own.size_is) fits.few_bytes) (own.owned w fair));
          }

-- The chunks of both sides and the one between them.
pub parts_joined : (bytes : List ℕ) (q k h r n : ℕ) (chunk : List ℕ) → chunk ≡ chunk_at bytes q (k + h) → n ≡ h + suc r → part bytes q k h ++ (chunk ∷ part bytes q (k + h + 1) r) ≡ part bytes q k n
parts_joined bytes q k h r n chunk is sum =
    ap (λ c. part bytes q k h ++ (c ∷ part bytes q (k + h + 1) r)) is
    ∙ ap (λ z. part bytes q k h ++ (chunk_at bytes q (k + h) ∷ part bytes q z r)) (add-one (k + h))
    ∙ sym (part_split bytes q k h r)
    ∙ ap (part bytes q k) (sym sum)
