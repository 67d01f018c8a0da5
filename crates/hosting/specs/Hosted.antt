-- A session that a host holds on a new document, with the memory that the options say.
use Rattle.std.specs.Prelude.{◌≡◌, ℕ, ◌*◌, Bool, List, Option, replicate, unwrap_or}
use Rattle.automaton.specs.Automaton.{Automaton}
use Rattle.document.specs.Content.{model_of, new_model}
use Rattle.document.specs.Log.{New}
use Rattle.document.specs.Snapshot.{Snapshot}
use Rattle.editing.specs.Content.{document_measure}
use Rattle.load.specs.declared.room.TheConstants.{UNREAD}
use Rattle.measure.specs.Blank.{blank_measure}
use Rattle.model.specs.Model.{Model}
use Rattle.report.specs.declared.pile.Pile.{Pile}
use Rattle.report.specs.declared.pile.Pile.TheVariants.{StringComment}
use Rattle.hosting.specs.declared.options.Options.{Options}
use Rattle.hosting.specs.Replies.{Readings}
use Rattle.hosting.specs.Conversing.{Conversation}

-- As many cells as the longest text has bytes: the buffer has them, and the screen if no word says otherwise.
abbrev pub most_cells : ℕ
most_cells = 262144

module _ (o : Options) where
  -- What is lent where no word says otherwise: the pile of strings over comments, and 4096 slots.
  abbrev pub pile_lent : Pile
  pile_lent = unwrap_or o.pile StringComment

  abbrev pub slots_lent : ℕ
  slots_lent = unwrap_or o.slots 4096

  abbrev pub cells_lent : ℕ
  cells_lent = unwrap_or o.screen most_cells

  -- The store and the readings fit the slots if no word says otherwise.
  abbrev pub store_lent : ℕ
  store_lent = unwrap_or o.store (64 * slots_lent)

  abbrev pub readings_lent : ℕ
  readings_lent = unwrap_or o.readings slots_lent

  abbrev pub model_lent : Model
  model_lent = new_model slots_lent store_lent readings_lent

-- The session begins with a new document over the memory that the options say, a screen and a buffer of zeros, and a reading of
-- nothing; from there on the lines do what they ask.
pub record Hosted (o : Options) (a : Automaton) (input held holds : Option (List ℕ)) (readable : Bool) : Type 0 where
  pub first : Snapshot (Readings (Unit {0}))
  pub last : Snapshot (Readings (Unit {0}))
  pub is_new : New first
  pub document_is : model_of first.document ≡ model_lent o
  pub screen_is : first.screen ≡ replicate (cells_lent o) 0
  pub buffer_is : first.buffer ≡ replicate most_cells 0
  pub reading_is : first.reading ≡ UNREAD
  pub conversation : Conversation a (document_measure a blank_measure) input held holds first last readable
