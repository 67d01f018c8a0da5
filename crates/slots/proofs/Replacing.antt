-- What taking a run of chunks out and putting others in rests on.
use Rattle.std.proofs.Common.{◌≡◌, ℕ, ◌+◌, ◌-◌, ◌≤◌, List, ◌++◌, map, length, take, drop, Option, sym, ap, ◌∙◌, subst, append_assoc, arith}
use Rattle.std.proofs.lemmas.List.{take-map, drop-map, drop-drop, map-append, take-append-drop}
use Rattle.measure.specs.Measure.{Measure}
use Rattle.chunks.specs.Tree.{Tree, root, slots}
use Rattle.chunks.specs.Footprint.{uses, count, below}
use Rattle.chunks.specs.Cut.{cut, needed, part}
use Rattle.chunks.proofs.Cut.{cut_part}
use Rattle.chunks.proofs.Footprint.{count_append, below_few}
use Rattle.slots.specs.declared.memory.Memory.{Memory}
use Rattle.slots.specs.Claim.{Claim, nothing, Fair}
use Rattle.slots.specs.View.{chunk_of, chunks_of}
use Rattle.slots.specs.Holds.{Holds}
use Rattle.slots.specs.Frame.{Frame}
use Rattle.slots.specs.Split.{Held, Apart, Halved, Appended}
use Rattle.slots.specs.Free.{Stack, Idle, Elsewhere, freed, Built}
use Rattle.slots.specs.Replace.{Whole, Parted, SameSize, Removed, Filled}
use Rattle.slots.proofs.Frame.{chunk_same, chunks_same, roomy_same}
use Rattle.slots.proofs.Holds.{holds_frame}
use Rattle.slots.proofs.Elsewhere.{elsewhere_frame, roomy_elsewhere, stack_elsewhere, chunks_elsewhere, holds_elsewhere, count_freed}
use Rattle.slots.proofs.Splitting.{halved_uses}
use Rattle.slots.proofs.Giving.{GivenBack}

pub held_whole : {R : Type 0} {m : Memory R} {link : Option ℕ} {t : Tree} {is : List ℕ} → Whole m link t is → Held m link t
held_whole whole = record { roomy = whole.roomy; root_is = whole.root_is; holds = whole.holds; once = λ j. omega (arith, whole.all j) }

module _ {R : Type 0} where
  pub same_size : {m n : Memory R} {f : ℕ → ℕ} → Elsewhere m n f → SameSize m n
  same_size p = record { usable = p.usable; slot_count = p.slot_count; reading_count = p.reading_count; store_count = p.store_count }

  size_frame : {m n : Memory R} {f : ℕ → ℕ} → Frame m n f → SameSize m n
  size_frame {m} {n} {f} p = same_size (elsewhere_frame m n f p)

  pub size_trans : {m n o : Memory R} → SameSize m n → SameSize n o → SameSize m o
  size_trans p q = record {
    usable = q.usable ∙ p.usable;
    slot_count = q.slot_count ∙ p.slot_count;
    reading_count = q.reading_count ∙ p.reading_count;
    store_count = q.store_count ∙ p.store_count;
  }

  -- Relinking leaves the stack of free slots.
  stack_frame : {m n : Memory R} {f : ℕ → ℕ} → Frame m n f → (is : List ℕ) → ((j : ℕ) → count is j + f j ≤ 1) → Stack m m.free is → Stack n n.free is
  stack_frame {m} {n} {f} p is apart h = subst (λ (z : Option ℕ). Stack n z is) (sym p.free) (stack_elsewhere m n f (elsewhere_frame m n f p) m.free is apart h)

  -- Both parts of a tree that was cut.
  module _ {μ : Measure R} {m : Memory R} {link : Option ℕ} {t : Tree} (held : Held m link t) {at : ℕ} {m₁ : Memory R} {a b : Tree} (halved : Halved μ m t at m₁ a b) where
    held_part : {x : Tree} → Holds nothing m₁ x → ((j : ℕ) → uses x j ≤ uses t j) → (link : Option ℕ) → link ≡ root x → Held m₁ link x
    held_part {x} holds less link e = record {
      roomy = roomy_same m m₁ _ halved.frame held.roomy;
      root_is = e;
      holds = holds;
      once = λ j. subst (λ z. uses x j ≤ below z j) (sym halved.frame.usable) (omega (arith, held.once j, less j));
    }

    pub held_front : (first : Option ℕ) → first ≡ root a → Held m₁ first a
    held_front = held_part (halved.keeps nothing tt held.holds).0 (λ j. omega (arith, halved_uses halved j))

    pub held_back : (rest : Option ℕ) → rest ≡ root b → Held m₁ rest b
    held_back = held_part (halved.keeps nothing tt held.holds).1 (λ j. omega (arith, halved_uses halved j))

    front_chunks : chunks_of m₁ a ≡ take at (chunks_of m t)
    front_chunks = chunks_same m m₁ _ halved.frame a ∙ ap (map (chunk_of m)) halved.front ∙ sym (take-map (chunk_of m) at (slots t))

    back_chunks : chunks_of m₁ b ≡ drop at (chunks_of m t)
    back_chunks = chunks_same m m₁ _ halved.frame b ∙ ap (map (chunk_of m)) halved.back ∙ sym (drop-map (chunk_of m) at (slots t))

  module _ {μ : Measure R} {m : Memory R} {link : Option ℕ} {t : Tree} {is : List ℕ} (whole : Whole m link t is) where
    module _ (from to : ℕ) (order : from ≤ to) {m₁ : Memory R} {a r : Tree} (first : Halved μ m t from m₁ a r) (behind : Option ℕ) (behind-root : behind ≡ root r)
        {m₂ : Memory R} {mid b : Tree} (second : Halved μ m₁ r (to - from) m₂ mid b) {m₃ : Memory R} (third : GivenBack m₂ mid m₃) where
      rest_held : Held m₁ behind r
      rest_held = held_back (held_whole whole) first behind behind-root

      each : (j : ℕ) → uses a j + (uses mid j + uses b j) + count is j ≡ below m.usable j
      each j = omega (arith, whole.all j, halved_uses first j, halved_uses second j)

      idle : Idle m₂ is
      idle = record {
        roomy = roomy_same m₁ m₂ _ second.frame rest_held.roomy;
        stack =
            stack_frame second.frame is (λ j. omega (arith, each j, halved_uses second j, below_few m.usable j))
            (stack_frame first.frame is (λ j. omega (arith, whole.all j, below_few m.usable j)) whole.stack);
        once = λ j. subst (λ z. count is j ≤ below z j) (sym (second.frame.usable ∙ first.frame.usable)) (omega (arith, each j));
      }

      first_stays : (w : Claim R) → Holds w m₁ a → Holds w m₃ a
      first_stays w h =
          holds_elsewhere m₂ m₃ _ third.0 w a (λ j. omega (arith, each j, below_few m.usable j))
          (holds_frame w m₁ m₂ _ second.frame a (λ j. omega (arith, each j, halved_uses second j, below_few m.usable j)) h)

      rest_stays : (w : Claim R) → Holds w m₂ b → Holds w m₃ b
      rest_stays w h = holds_elsewhere m₂ m₃ _ third.0 w b (λ j. omega (arith, each j, below_few m.usable j)) h

      used : m₃.usable ≡ m.usable
      used = third.0.usable ∙ second.frame.usable ∙ first.frame.usable

      both : (w : Claim R) → Fair w μ → Holds w m t → Holds w m₃ a × Holds w m₃ b
      both w fair h =
          let p = first.keeps w fair h in
          (first_stays w p.0, rest_stays w (second.keeps w fair p.1).1)

      pub removed_parted : (front rest : Option ℕ) → front ≡ root a → rest ≡ root b → Parted m₃ front a rest b (freed mid is)
      removed_parted front rest e f = record {
        roomy = roomy_elsewhere m₂ m₃ _ third.0 idle.roomy;
        first_root = e;
        rest_root = f;
        first_holds = (both nothing tt whole.holds).0;
        rest_holds = (both nothing tt whole.holds).1;
        stack = third.1 is idle (λ j. subst (λ z. uses mid j + count is j ≤ below z j) (sym (second.frame.usable ∙ first.frame.usable)) (omega (arith, each j)));
        all = λ j. subst (λ z. uses a j + uses b j + count (freed mid is) j ≡ below z j) (sym used) (omega (arith, each j, count_freed mid is j));
      }

      pub removed : Removed μ m t from to m₃ a b
      removed = record {
        same_size = size_trans (size_frame first.frame) (size_trans (size_frame second.frame) (same_size third.0));
        before =
            chunks_elsewhere m₂ m₃ _ third.0 nothing a (λ j. omega (arith, each j, below_few m.usable j))
            (holds_frame nothing m₁ m₂ _ second.frame a (λ j. omega (arith, each j, halved_uses second j, below_few m.usable j)) (first.keeps nothing tt whole.holds).0)
            ∙ chunks_same m₁ m₂ _ second.frame a
            ∙ front_chunks (held_whole whole) first;
        behind =
            let e : from + (to - from) ≡ to = omega arith in
            chunks_elsewhere m₂ m₃ _ third.0 nothing b (λ j. omega (arith, each j, below_few m.usable j)) (second.keeps nothing tt rest_held.holds).1
            ∙ back_chunks rest_held second
            ∙ ap (drop (to - from)) (back_chunks (held_whole whole) first)
            ∙ drop-drop (to - from) from (chunks_of m t)
            ∙ ap (λ n. drop n (chunks_of m t)) e;
        keeps = both;
      }

  module _ {m : Memory R} {first : Option ℕ} {a : Tree} {rest : Option ℕ} {b : Tree} {is : List ℕ} (parted : Parted m first a rest b is) where
    pub parted_idle : Idle m is
    parted_idle = record { roomy = parted.roomy; stack = parted.stack; once = λ j. omega (arith, parted.all j) }

    module _ {μ : Measure R} (bytes : List ℕ) {m₁ : Memory R} {new : Tree} (built : Built μ m is (needed (length bytes)) (part bytes (needed (length bytes)) 0 (needed (length bytes))) m₁ new) where
      q : ℕ
      q = needed (length bytes)

      counted : (j : ℕ) → count (take q is) j + count (drop q is) j ≡ count is j
      counted j = sym (count_append (take q is) (drop q is) j) ∙ ap (λ l. count l j) (take-append-drop q is)

      every : (j : ℕ) → uses a j + uses b j + (uses new j + count (drop q is) j) ≡ below m.usable j
      unfolding q
      every j = omega (arith, parted.all j, counted j, built.used j)

      a_apart : (j : ℕ) → uses a j + count (take q is) j ≤ 1
      unfolding q
      a_apart j = omega (arith, parted.all j, counted j, below_few m.usable j)

      b_apart : (j : ℕ) → uses b j + count (take q is) j ≤ 1
      unfolding q
      b_apart j = omega (arith, parted.all j, counted j, below_few m.usable j)

      a_stays : (w : Claim R) → Holds w m a → Holds w m₁ a
      unfolding q
      a_stays w h = holds_elsewhere m m₁ _ built.elsewhere w a a_apart h

      b_stays : (w : Claim R) → Holds w m b → Holds w m₁ b
      unfolding q
      b_stays w h = holds_elsewhere m m₁ _ built.elsewhere w b b_apart h

      pub front_apart : (middle : Option ℕ) → middle ≡ root new → Apart m₁ first a middle new
      front_apart middle e = record {
        roomy = roomy_elsewhere m m₁ _ built.elsewhere parted.roomy;
        first_root = parted.first_root;
        rest_root = e;
        first_holds = a_stays nothing parted.first_holds;
        rest_holds = built.holds nothing tt;
        once = λ j. subst (λ z. uses a j + uses new j ≤ below z j) (sym built.elsewhere.usable) (omega (arith, every j));
      }

      module _ {m₂ : Memory R} {x : Tree} (front : Appended μ m₁ a new m₂ x) where
        x_uses : (j : ℕ) → uses x j ≡ uses a j + uses new j
        x_uses j = ap (λ l. count l j) front.order ∙ count_append (slots a) (slots new) j

        b_again : (w : Claim R) → Holds w m b → Holds w m₂ b
        b_again w h = holds_frame w m₁ m₂ _ front.frame b (λ j. omega (arith, every j, below_few m.usable j)) (b_stays w h)

        pub back_apart : (link : Option ℕ) → link ≡ root x → Apart m₂ link x rest b
        back_apart link e = record {
          roomy = roomy_same m₁ m₂ _ front.frame (roomy_elsewhere m m₁ _ built.elsewhere parted.roomy);
          first_root = e;
          rest_root = parted.rest_root;
          first_holds = front.keeps nothing tt (a_stays nothing parted.first_holds) (built.holds nothing tt);
          rest_holds = b_again nothing parted.rest_holds;
          once = λ j. subst (λ z. uses x j + uses b j ≤ below z j) (sym (front.frame.usable ∙ built.elsewhere.usable)) (omega (arith, every j, x_uses j));
        }

        module _ {m₃ : Memory R} {y : Tree} (done : Appended μ m₂ x b m₃ y) where
          y_uses : (j : ℕ) → uses y j ≡ uses x j + uses b j
          y_uses j = ap (λ l. count l j) done.order ∙ count_append (slots x) (slots b) j

          all_keeps : (w : Claim R) → Fair w μ → Holds w m a → Holds w m b → Holds w m₃ y
          all_keeps w fair ha hb = done.keeps w fair (front.keeps w fair (a_stays w ha) (built.holds w fair)) (b_again w hb)

          chunk_all : chunk_of m₃ ≡ chunk_of m₁
          chunk_all = chunk_same m₂ m₃ _ done.frame ∙ chunk_same m₁ m₂ _ front.frame

          in_order : slots y ≡ slots a ++ (slots new ++ slots b)
          in_order = done.order ∙ ap (λ l. l ++ slots b) front.order ∙ append_assoc (slots a) (slots new) (slots b)

          pub inserted_whole : (link : Option ℕ) → link ≡ root y → Whole m₃ link y (drop (needed (length bytes)) is)
          unfolding q
          inserted_whole link e = record {
            roomy = roomy_same m₂ m₃ _ done.frame (roomy_same m₁ m₂ _ front.frame (roomy_elsewhere m m₁ _ built.elsewhere parted.roomy));
            root_is = e;
            holds = all_keeps nothing tt parted.first_holds parted.rest_holds;
            stack =
                stack_frame done.frame (drop q is) (λ j. omega (arith, every j, x_uses j, below_few m.usable j))
                (stack_frame front.frame (drop q is) (λ j. omega (arith, every j, below_few m.usable j)) built.stack);
            all = λ j. subst (λ z. uses y j + count (drop q is) j ≡ below z j) (sym (done.frame.usable ∙ front.frame.usable ∙ built.elsewhere.usable)) (omega (arith, every j, x_uses j, y_uses j));
          }

          pub filled : Filled μ m a b bytes m₃ y
          unfolding q
          filled = record {
            same_size = size_trans (same_size built.elsewhere) (size_trans (size_frame front.frame) (size_frame done.frame));
            chunks_are =
                ap (λ (c : ℕ → List ℕ). map c (slots y)) chunk_all
                ∙ ap (map (chunk_of m₁)) in_order
                ∙ map-append (chunk_of m₁) (slots a) (slots new ++ slots b)
                ∙ ap (λ l. chunks_of m₁ a ++ l) (map-append (chunk_of m₁) (slots new) (slots b))
                ∙ ap (λ l. l ++ (chunks_of m₁ new ++ chunks_of m₁ b)) (chunks_elsewhere m m₁ _ built.elsewhere nothing a a_apart parted.first_holds)
                ∙ ap (λ l. chunks_of m a ++ (l ++ chunks_of m₁ b)) (built.chunks_are ∙ sym (cut_part bytes))
                ∙ ap (λ l. chunks_of m a ++ (cut bytes ++ l)) (chunks_elsewhere m m₁ _ built.elsewhere nothing b b_apart parted.rest_holds);
            keeps = all_keeps;
          }
