-- What writing a chunk leaves: the slot's own part of the store has the bytes, every other part is as it was.
use Rattle.std.proofs.Common.{◌≡◌, ℕ, ◌+◌, ◌-◌, ◌*◌, ◌<◌, ◌≤◌, List, map, length, get_or, take, drop, set, sym, ap, ◌∙◌, ⊎_elim, arith, rules}
use borrow.Rule.Slice.PartMut.{put_mid}
use Rattle.std.proofs.lemmas.List.{places, drop-take, length-map, map-set, get_or-set_same}
use Rattle.std.proofs.lemmas.Slice.{take-put_mid_below, drop-put_mid, between-put_mid}
use Rattle.std.proofs.lemmas.Bool.{cases_lt}
use Rattle.chunks.specs.Footprint.{one}
use Rattle.chunks.proofs.Footprint.{one_other}
use Rattle.slots.specs.declared.memory.Memory.{Memory}
use Rattle.slots.specs.declared.slot.Slot.{Slot}
use Rattle.slots.specs.View.{size_of, chunk_of, Roomy}
use Rattle.slots.specs.Free.{Elsewhere, Written}
use Rattle.slots.proofs.Elsewhere.{elsewhere_written}

module _ (xs ys : List ℕ) (i k : ℕ) (long : k ≡ length ys) (few : k ≤ 64) (within : 64 * i + 64 ≤ length xs) where
  put : List ℕ
  put = put_mid (64 * i) k xs ys

  put_length : length put ≡ length xs
  unfolding put
  put_length = search (rules, places)

  put_here : take k (drop (64 * i) put) ≡ ys
  unfolding put
  put_here =
      let e : 64 * i + k - 64 * i ≡ k = omega arith in
      ap (λ n. take n (drop (64 * i) (put_mid (64 * i) k xs ys))) (sym e) ∙ between-put_mid (64 * i) k xs ys (64 * i + k) (omega arith) (omega arith)

  put_there : (j n : ℕ) → one i j ≡ 0 → n ≤ 64 → take n (drop (64 * j) put) ≡ take n (drop (64 * j) xs)
  unfolding put
  put_there j n apart small =
      ⊎_elim
      (λ h.
      sym (drop-take (64 * j) n (put_mid (64 * i) k xs ys))
      ∙ ap (drop (64 * j)) (take-put_mid_below (64 * i) k xs ys (64 * j + n) (omega arith) (omega arith))
      ∙ drop-take (64 * j) n xs)
      (λ h.
      let past : i < j = ⊎_elim (λ b. b) (λ b. let same : i ≡ j = omega arith in absurd (one_other i j apart same)) (cases_lt i j) in
      ap (take n) (drop-put_mid (64 * i) k xs ys (64 * j) (omega arith) (omega arith) (sym long)))
      (cases_lt j i)

module _ {R : Type 0} (m n : Memory R) (i : ℕ) (slot : Slot R) (bytes ys : List ℕ) (k : ℕ) (roomy : Roomy m) (known : i < m.usable) (few : length bytes ≤ 64)
    (slots : n.slots.now ≡ set m.slots.now i slot) (copied : ys ≡ bytes) (same : k ≡ length bytes) (store : n.store.now ≡ put_mid (64 * i) k m.store.now ys)
    (readings : n.readings.now ≡ m.readings.now) (usable : n.usable ≡ m.usable) (free : n.free ≡ m.free) (size : slot.size ≡ length bytes) where
  long : k ≡ length ys
  long = same ∙ sym (ap length copied)

  within : 64 * i + 64 ≤ length m.store.now
  within = let room = roomy.store_each in omega arith

  written_elsewhere : Elsewhere m n (one i)
  unfolding put
  written_elsewhere =
      elsewhere_written m n i slot slots readings usable
      (ap length store ∙ put_length m.store.now ys i k long (omega arith) within)
      (λ j h apart small. ap (λ z. take h (drop (64 * j) z)) store ∙ put_there m.store.now ys i k long (omega arith) within j h apart small)

  written_size : size_of n i ≡ length bytes
  written_size =
      let room = roomy.slot_each in
      let view : List (Slot R) → List ℕ = map (λ s. s.size) in
      ap (λ z. get_or (view z) i 0) slots
      ∙ ap (λ (z : List ℕ). get_or z i 0) (map-set (λ (s : Slot R). s.size) m.slots.now i slot)
      ∙ get_or-set_same (view m.slots.now) i slot.size 0 (omega (arith, length-map m.slots.now (λ (s : Slot R). s.size)))
      ∙ size

  written_chunk : chunk_of n i ≡ bytes
  unfolding put
  written_chunk =
      ap (λ h. take h (drop (64 * i) n.store.now)) (written_size ∙ sym same)
      ∙ ap (λ z. take k (drop (64 * i) z)) store
      ∙ put_here m.store.now ys i k long (omega arith) within
      ∙ copied

  pub written : Written m i bytes slot.own n
  written =
      let room = roomy.slot_each in
      record {
        elsewhere = written_elsewhere;
        free = free;
        chunk_is = written_chunk;
        size_is = written_size;
        own_is = λ d. ap (λ (z : List (Slot R)). (get_or z i d).own) slots ∙ ap (λ (s : Slot R). s.own) (get_or-set_same m.slots.now i slot d (omega arith));
      }
