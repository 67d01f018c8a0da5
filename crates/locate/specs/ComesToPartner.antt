-- What the two searches for a partner come to: where they stop is the partner, and without one they run through.
use Rattle.std.specs.Prelude.{◌≡◌, ℕ, ◌+◌, ◌-◌, ◌≤◌, cond, List, length, take, drop, Some, None, Option}
use Rattle.automaton.specs.Automaton.{Automaton}
use Rattle.automaton.specs.Walk.{state_before}
use Rattle.automaton.specs.declared.role.BracketKind.{BracketKind}
use Rattle.automaton.specs.declared.role.Role.TheVariants.{Opening, Closing}
use Rattle.measure.specs.Bounded.{longest}
use Rattle.search.specs.declared.stop.Stop.{Stop}
use Rattle.search.specs.Forwards.{stop}
use Rattle.search.specs.Backwards.{back_stop}
use Rattle.brackets.specs.Partner.{role_at, partner_ahead, partner_behind}
use Rattle.locate.specs.Depth.{deepest}
use Rattle.locate.specs.PartnerAhead.{nested, ahead_on}
use Rattle.locate.specs.PartnerBehind.{traced, trace_on, behind_on}

-- The place before which a search from a place on stopped, if it did.
abbrev pub stopped_before : {A : Type 0} → ℕ → Stop A → Option ℕ
stopped_before place s = cond s.stopped (Some (place + s.passed)) None

-- The place behind which a search from a place back stopped, if it did.
abbrev pub stopped_behind : {A : Type 0} → ℕ → Stop A → Option ℕ
stopped_behind place s = cond s.stopped (Some ((place - s.passed) - 1)) None

-- From behind an opening on, with that opening unmatched.
abbrev pub AheadComesToPartner : Type 0
AheadComesToPartner = (a : Automaton) (text : List ℕ) (p : ℕ) (kind : BracketKind) → length text ≤ deepest → role_at a text p ≡ Opening kind → stopped_before (p + 1) (stop (ahead_on a) (nested (state_before a text (p + 1)) 1) (drop (p + 1) text)) ≡ partner_ahead a text p

-- From before a closing back, with that closing unmatched; the walk is traced from the first byte on.
abbrev pub BehindComesToPartner : Type 0
BehindComesToPartner = (a : Automaton) (text : List ℕ) (p : ℕ) (kind : BracketKind) → length text ≤ longest → role_at a text p ≡ Closing kind → stopped_behind p (back_stop (trace_on a) (behind_on a) (Some (traced 0 0)) (take p text) 1) ≡ partner_behind a text p
