-- All that a call can see and change: the document, the screen, the buffer of TEXT and COLOURS, and the reading of RANGE.
use Rattle.std.specs.Prelude.{◌≡◌, ℕ, List}
use Rattle.document.specs.declared.desk.Desk.{Desk}
use Rattle.document.specs.declared.document.Document.{Document}
use Rattle.document.specs.Content.{Unchanged}

pub record Snapshot (R : Type 0) : Type 0 where
  pub document : Document R
  pub screen : List ℕ
  pub buffer : List ℕ
  pub reading : R

-- A document with what is lent to its calls.
abbrev pub seen : {R : Type 0} → Document R → Desk R → Snapshot R
seen document desk = record { document = document; screen = desk.screen.now; buffer = desk.buffer.now; reading = desk.reading.now }

-- The same memory is lent.
abbrev pub SameDesk : {R : Type 0} → Desk R → Desk R → Type 0
SameDesk before after = (after.screen.ghost_name ≡ before.screen.ghost_name) × ((after.buffer.ghost_name ≡ before.buffer.ghost_name) × (after.reading.ghost_name ≡ before.reading.ghost_name))

-- Nothing of it changed, not a byte.
abbrev pub SameSnapshot : {R : Type 0} → Snapshot R → Snapshot R → Type 0
SameSnapshot before after = Unchanged before.document after.document × ((after.screen ≡ before.screen) × ((after.buffer ≡ before.buffer) × (after.reading ≡ before.reading)))
