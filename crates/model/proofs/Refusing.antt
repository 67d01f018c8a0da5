-- The tests of the calls decide what the calls need, one after another.
use Rattle.std.proofs.Common.{◌≡◌, ℕ, ◌-◌, ◌*◌, ◌≤◌, Bool, true, false, ◌&&◌, eqb, leb, List, length, Some, None, Option, refl, sym, ap, ◌∙◌, subst}
use Rattle.std.specs.Prelude.{Decides, ◌≢◌}
use Rattle.std.proofs.lemmas.Bool.{eqb-true, eq-eqb, leb-true, le-leb}
use Rattle.std.proofs.lemmas.Bool.Decides.{Decides-and, Decides-ltb, Decides-like}
use Rattle.automaton.specs.declared.role.BracketKind.{BracketKind}
use Rattle.automaton.specs.declared.role.Role.{Role}
use Rattle.automaton.specs.declared.role.Role.TheVariants.{Plain, Opening, Closing}
use Rattle.brackets.specs.Partner.{role_at, is_live}
use Rattle.measure.specs.Place.{line_ends}
use Rattle.model.specs.declared.change.Change.{Change}
use Rattle.model.specs.declared.refusal.Refusal.{Refusal}
use Rattle.model.specs.declared.refusal.Refusal.TheVariants.{OpenedBefore, SlotCount, LentLength, UnusableGrammar, OutsideText, TooManyBytes, TooManyChunks, UnknownDue, ShortScreen, ShortBuffer, OutsidePlace, NoLine, NoBracket, OutsidePart}
use Rattle.model.specs.declared.replacement.Replacement.{Replacement}
use Rattle.model.specs.Calls.{unless, unless_due, open_refusal, change_refusal, same_change, stands, paint_refusal}
use Rattle.model.specs.Edit.{edited_text, edited_chunks}
use Rattle.model.specs.Laws.{CallsAreRefusedInOrder}
use Rattle.model.specs.Model.{Model, text_of}
use Rattle.model.specs.Paint.{length_before}
use Rattle.model.specs.Reasons.{Said, Taken, Needs, NeedsNoDue, NeedsRange, OpenNeeds, ChangeNeeds, PaintNeeds, RecordNeeds}
use Rattle.model.specs.Script.{part_of, else_refused, record_refusal}

pub orders : (a b : ℕ) → Decides (leb a b) (a ≤ b)
orders a b = (leb-true a b, le-leb a b)

pub equals : (a b : ℕ) → Decides (eqb a b) (a ≡ b)
equals a b = (eqb-true a b, eq-eqb a b)

-- A test that decides a condition, and what follows it.
unless_met : (t : Bool) (P : Type 0) (refusal : Refusal) (next : Option Refusal) (said : Said) → Decides t P → said next → Needs P refusal said (unless t refusal next)
unless_met true P refusal next said d then = record { unmet = λ n. absurd (n (d.0 refl)); met = λ p. then }
unless_met false P refusal next said d then = record { unmet = λ n. refl; met = λ p. absurd (cc (d.1 p)) }

unless_none : (due : Option Change) (next : Option Refusal) (said : Said) → said next → NeedsNoDue due said (unless_due due next)
unless_none None next said then = then
unless_none (Some c) next said then = refl

-- What is asked for after a refusal that did not come.
passed_on : (t : Bool) (refusal : Refusal) (first next : Option Refusal) → else_refused (unless t refusal first) next ≡ unless t refusal (else_refused first next)
passed_on true refusal first next = refl
passed_on false refusal first next = refl

abbrev numbers : ℕ → ℕ → ℕ → ℕ → Change
numbers place removed inserted end = record { place = place; removed = removed; inserted = inserted; end = end }

pub same_changes : (c d : Change) → Decides (same_change c d) (c ≡ d)
same_changes c d =
    Decides-like (same_change c d)
    (λ e. alike e.0 e.1.0 e.1.1.0 e.1.1.1)
    (λ e. (ap (λ (x : Change). x.place) e, (ap (λ (x : Change). x.removed) e, (ap (λ (x : Change). x.inserted) e, ap (λ (x : Change). x.end) e))))
    (Decides-and _ _ (equals c.place d.place) (Decides-and _ _ (equals c.removed d.removed) (Decides-and _ _ (equals c.inserted d.inserted) (equals c.end d.end))))
  where
    alike : c.place ≡ d.place → c.removed ≡ d.removed → c.inserted ≡ d.inserted → c.end ≡ d.end → c ≡ d
    alike p r i e = let same : numbers c.place c.removed c.inserted c.end ≡ numbers d.place d.removed d.inserted d.end = cc in same

found : (due : Option Change) (c : Change) → Decides (stands due c) (due ≡ Some c)
found None c = (λ e. absurd (cc), λ e. absurd (cc))
found (Some d) c = Decides-like (same_change d c) (λ e. ap Some e) (λ e. cc) (same_changes d c)

roles : (r : Role BracketKind) → Decides (is_live r) (r ≢ Plain)
roles Plain = (λ e. absurd (cc), λ ne. absurd (ne refl))
roles (Opening kind) = (λ e p. cc, λ ne. refl)
roles (Closing kind) = (λ e p. cc, λ ne. refl)

module _ (m : Model) where
  ranged : (from to : ℕ) (next : Option Refusal) (said : Said) → said next → NeedsRange m from to said (unless (leb from to && leb to (length (text_of m))) (OutsideText to) next)
  ranged from to next said then = unless_met _ _ (OutsideText to) next said (Decides-and _ _ (orders from to) (orders to (length (text_of m)))) then

  changes : (from to : ℕ) (new : List ℕ) (next : Option Refusal) (said : Said) → said next →
      let chunks = length (edited_chunks m.chunks from to new) in
      ChangeNeeds m from to new said (unless (leb from to && leb to (length (text_of m))) (OutsideText to) (unless (leb (length new) 1024) (TooManyBytes (length new)) (unless (leb chunks m.usable) (TooManyChunks chunks) next)))
  changes from to new next said then =
      let chunks = length (edited_chunks m.chunks from to new) in
      ranged from to _ _
      (unless_met _ _ (TooManyBytes (length new)) _ _ (orders (length new) 1024)
      (unless_met _ _ (TooManyChunks chunks) next said (orders chunks m.usable) then))

  opening : (states : ℕ) → OpenNeeds m states (open_refusal m states)
  opening states =
      unless_met _ _ OpenedBefore _ _ (equals m.usable 0)
      (unless_met _ _ (SlotCount m.slots) _ _ (Decides-and _ _ (orders 1 m.slots) (orders m.slots 4096))
      (unless_met _ _ (LentLength m.store) _ _ (equals m.store (64 * m.slots))
      (unless_met _ _ (LentLength m.readings) _ _ (equals m.readings m.slots)
      (unless_met _ _ UnusableGrammar None Taken (Decides-ltb 0 states) refl))))

  screened : (c : Change) (cells : ℕ) → PaintNeeds m c cells (paint_refusal m c cells)
  screened c cells =
      let n = length (text_of m) in
      unless_met _ _ (UnknownDue c.place) _ _ (found m.due c)
      (unless_met _ _ (ShortScreen cells) None Taken (Decides-and _ _ (orders n cells) (orders (length_before c n) cells)) refl)

  recording : (cells : ℕ) (given : List ℕ) (r : Replacement) → RecordNeeds m cells given r (record_refusal cells given m r)
  recording cells given r =
      let new = part_of given r in
      let chunks = length (edited_chunks m.chunks r.from r.to new) in
      let n = length (text_of m) in
      let screen = unless (leb n cells && leb (length (edited_text (text_of m) r.from r.to new)) cells) (ShortScreen cells) None in
      let range = leb r.from r.to && leb r.to n in
      let bytes = leb (length new) 1024 in
      let fit = leb chunks m.usable in
      let order : else_refused (change_refusal m r.from r.to new) screen ≡ unless range (OutsideText r.to) (unless bytes (TooManyBytes (length new)) (unless fit (TooManyChunks chunks) screen)) =
      passed_on range (OutsideText r.to) (unless bytes (TooManyBytes (length new)) (unless fit (TooManyChunks chunks) None)) screen
      ∙ ap (unless range (OutsideText r.to)) (passed_on bytes (TooManyBytes (length new)) (unless fit (TooManyChunks chunks) None) screen ∙ ap (unless bytes (TooManyBytes (length new))) (passed_on fit (TooManyChunks chunks) None screen)) in
      unless_none m.due _ _
      (unless_met _ _ (OutsidePart r.end) _ _ (Decides-and _ _ (orders r.start r.end) (orders r.end (length given)))
      (subst (ChangeNeeds m r.from r.to new (Needs ((n ≤ cells) × (length (edited_text (text_of m) r.from r.to new) ≤ cells)) (ShortScreen cells) Taken)) (sym order)
      (changes r.from r.to new screen _ (unless_met _ _ (ShortScreen cells) None Taken (Decides-and _ _ (orders n cells) (orders (length (edited_text (text_of m) r.from r.to new)) cells)) refl))))

pub calls_are_refused_in_order : CallsAreRefusedInOrder
calls_are_refused_in_order = record {
  opens = opening;
  edits = λ m from to new. unless_none m.due _ _ (changes m from to new None Taken refl);
  paints = screened;
  closes = λ m. unless_none m.due None Taken refl;
  reads = λ m from to cells. ranged m from to _ _ (unless_met _ _ (ShortBuffer cells) None Taken (orders (to - from) cells) refl);
  extents = λ m from to. ranged m from to None Taken refl;
  places = λ m at. unless_met _ _ (OutsidePlace at) None Taken (orders at (length (text_of m))) refl;
  spots = λ m line. unless_met _ _ (NoLine line) None Taken (orders line (line_ends (text_of m))) refl;
  partners = λ m a at.
      unless_met _ _ (OutsidePlace at) _ _ (Decides-ltb at (length (text_of m)))
      (unless_met _ _ (NoBracket at) None Taken (roles (role_at a (text_of m) at)) refl);
  records = recording;
}
