-- What relinking slots leaves as it was: the store, every chunk and its own reading, the free slots,
-- and all that is said of slots which were not touched.
use Rattle.std.specs.Prelude.{◌≡◌, ℕ, map, length, slice_index_or}
use Rattle.slots.specs.declared.memory.Memory.{Memory}
use Rattle.slots.specs.declared.slot.Slot.{Slot}

-- `touched` counts how often a slot was touched.
pub record Frame {R : Type 0} (m after : Memory R) (touched : ℕ → ℕ) : Type 0 where
  pub usable : after.usable ≡ m.usable
  pub free : after.free ≡ m.free
  pub store : after.store.now ≡ m.store.now
  pub slot_count : length after.slots.now ≡ length m.slots.now
  pub reading_count : length after.readings.now ≡ length m.readings.now
  pub sizes : map (λ s. s.size) after.slots.now ≡ map (λ s. s.size) m.slots.now
  pub nexts : map (λ s. s.next) after.slots.now ≡ map (λ s. s.next) m.slots.now
  pub owns : map (λ s. s.own) after.slots.now ≡ map (λ s. s.own) m.slots.now
  pub slots_apart : (j : ℕ) → touched j ≡ 0 → (d : Slot R) → slice_index_or after.slots.now j d ≡ slice_index_or m.slots.now j d
  pub readings_apart : (j : ℕ) → touched j ≡ 0 → (d : R) → slice_index_or after.readings.now j d ≡ slice_index_or m.readings.now j d
