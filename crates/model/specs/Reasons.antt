-- Why each call is refused, as relations: what it needs, in the order in which that is asked for, and the refusal where it is wanting.
-- The first need that is not met refuses the call; where each is met, it is taken. Laws.antt asks this of the tests of Calls and Script.
use Rattle.std.specs.Prelude.{◌≡◌, ℕ, ◌-◌, ◌*◌, ◌<◌, ◌≤◌, List, length, Some, None, Option, ◌≢◌}
use Rattle.automaton.specs.Automaton.{Automaton}
use Rattle.automaton.specs.declared.role.Role.TheVariants.{Plain}
use Rattle.brackets.specs.Partner.{role_at}
use Rattle.measure.specs.Place.{line_ends}
use Rattle.model.specs.declared.change.Change.{Change}
use Rattle.model.specs.declared.refusal.Refusal.{Refusal}
use Rattle.model.specs.declared.refusal.Refusal.TheVariants.{OpenedBefore, SlotCount, LentLength, UnusableGrammar, DueStands, OutsideText, TooManyBytes, TooManyChunks, UnknownDue, ShortScreen, ShortBuffer, OutsidePlace, NoLine, NoBracket, OutsidePart}
use Rattle.model.specs.declared.replacement.Replacement.{Replacement}
use Rattle.model.specs.Edit.{edited_text, edited_chunks}
use Rattle.model.specs.Model.{Model, text_of}
use Rattle.model.specs.Paint.{length_before}
use Rattle.model.specs.Script.{part_of}

-- What is said of a call's refusal, if there is one.
abbrev pub Said : Type 1
Said = Option Refusal → Type 0

abbrev pub Taken : Said
Taken refused = refused ≡ None

-- A condition that has to hold, and what is needed next.
pub record Needs (condition : Type 0) (refusal : Refusal) (next : Said) (refused : Option Refusal) : Type 0 where
  pub unmet : (condition → ⊥) → refused ≡ Some refusal
  pub met : condition → next refused

-- No due may stand; one that does is named by its place.
abbrev pub NeedsNoDue : Option Change → Said → Said
NeedsNoDue None next refused = next refused
NeedsNoDue (Some c) next refused = refused ≡ Some (DueStands c.place)

module _ (m : Model) where
  abbrev pub NeedsRange : ℕ → ℕ → Said → Said
  NeedsRange from to = Needs ((from ≤ to) × (to ≤ length (text_of m))) (OutsideText to)

  abbrev pub OpenNeeds : ℕ → Said
  OpenNeeds states =
      Needs (m.usable ≡ 0) OpenedBefore
      (Needs ((1 ≤ m.slots) × (m.slots ≤ 4096)) (SlotCount m.slots)
      (Needs (m.store ≡ 64 * m.slots) (LentLength m.store)
      (Needs (m.readings ≡ m.slots) (LentLength m.readings)
      (Needs (0 < states) UnusableGrammar Taken))))

  abbrev pub ChangeNeeds : ℕ → ℕ → List ℕ → Said → Said
  ChangeNeeds from to new next =
      let chunks = length (edited_chunks m.chunks from to new) in
      NeedsRange from to
      (Needs (length new ≤ 1024) (TooManyBytes (length new))
      (Needs (chunks ≤ m.usable) (TooManyChunks chunks) next))

  abbrev pub EditNeeds : ℕ → ℕ → List ℕ → Said
  EditNeeds from to new = NeedsNoDue m.due (ChangeNeeds from to new Taken)

  -- The due that stands has to be the very one that is given.
  abbrev pub PaintNeeds : Change → ℕ → Said
  PaintNeeds c cells =
      let n = length (text_of m) in
      Needs (m.due ≡ Some c) (UnknownDue c.place)
      (Needs ((n ≤ cells) × (length_before c n ≤ cells)) (ShortScreen cells) Taken)

  abbrev pub CloseNeeds : Said
  CloseNeeds = NeedsNoDue m.due Taken

  abbrev pub ReadNeeds : ℕ → ℕ → ℕ → Said
  ReadNeeds from to cells = NeedsRange from to (Needs (to - from ≤ cells) (ShortBuffer cells) Taken)

  abbrev pub PlaceNeeds : ℕ → Said
  PlaceNeeds at = Needs (at ≤ length (text_of m)) (OutsidePlace at) Taken

  abbrev pub SpotNeeds : ℕ → Said
  SpotNeeds line = Needs (line ≤ line_ends (text_of m)) (NoLine line) Taken

  abbrev pub PartnerNeeds : Automaton → ℕ → Said
  PartnerNeeds a at =
      Needs (at < length (text_of m)) (OutsidePlace at)
      (Needs (role_at a (text_of m) at ≢ Plain) (NoBracket at) Taken)

  -- A record's screen has to hold the text before it and the text behind it.
  abbrev pub RecordNeeds : ℕ → List ℕ → Replacement → Said
  RecordNeeds cells given r =
      let new = part_of given r in
      NeedsNoDue m.due
      (Needs ((r.start ≤ r.end) × (r.end ≤ length given)) (OutsidePart r.end)
      (ChangeNeeds r.from r.to new
      (Needs ((length (text_of m) ≤ cells) × (length (edited_text (text_of m) r.from r.to new) ≤ cells)) (ShortScreen cells) Taken)))
