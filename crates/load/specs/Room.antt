-- What the memory holds that is made for a tree.
use Rattle.std.specs.Prelude.{◌≡◌, ℕ, ◌*◌, replicate}
use Rattle.tree.specs.declared.lent.Lent.{Lent}
use Rattle.load.specs.declared.room.Room.{Room}
use Rattle.load.specs.declared.room.TheConstants.{UNREAD, UNUSED}

-- What so many slots need.
abbrev pub needed_for : ℕ → Lent
needed_for n = record { slots = n; store = 64 * n; readings = n }

pub record Holds (lent : Lent) (room : Room) : Type 0 where
  pub slots_are : room.slots.items ≡ replicate lent.slots UNUSED
  pub store_is : room.store.items ≡ replicate lent.store 0
  pub readings_are : room.readings.items ≡ replicate lent.readings UNREAD
