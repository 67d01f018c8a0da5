-- Memory made ready for n slots: nothing is held yet, and all of the slots are free.
use Rattle.std.specs.Prelude.{◌≡◌, ℕ, [], length, None}
use Rattle.std.specs.List.{range_with_len}
use Rattle.measure.specs.Measure.{Measure}
use Rattle.slots.specs.declared.memory.Memory.{Memory}
use Rattle.slots.specs.Sound.{Sound, Kept, chunks_in, free_of}

pub record Prepared {R : Type 0} (m : Memory R) (n : ℕ) (after : Memory R) : Type 0 where
  pub usable : after.usable ≡ n
  pub sound : Sound after None
  pub chunks : chunks_in after None ≡ []
  pub all_free : free_of after ≡ range_with_len 0 n
  pub keeps : (μ : Measure R) → Kept μ after None
  pub slot_count : length after.slots.now ≡ length m.slots.now
  pub store : after.store.now ≡ m.store.now
  pub readings : after.readings.now ≡ m.readings.now
