use Rattle.std.proofs.Common.{◌≡◌, ◌-◌, length}
use Rattle.std.specs.List.{range_with_len}
use Rattle.slots.specs.View.{Roomy}
use Rattle.slots.specs.Free.{Stack}
use Rattle.exchange.proofs.prepare.prepare.Given as goal

-- The slots from i on are free.
abbrev pub invariant-loop-i : goal.invariant-loop-i
invariant-loop-i g l = record {
  roomy : Roomy l.memory;
  usable : l.memory.usable ≡ l.n;
  stack : Stack l.memory l.memory.free (range_with_len l.i (l.n - l.i));
  slot_count : length l.memory.slots.now ≡ length l.initial.memory.slots.now;
  store : l.memory.store.now ≡ l.initial.memory.store.now;
  readings : l.memory.readings.now ≡ l.initial.memory.readings.now;
}
