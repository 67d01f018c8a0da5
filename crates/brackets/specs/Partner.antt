-- Which bracket belongs to which. Only live brackets count. All kinds are counted together; whether the two that are found are of
-- one kind is told besides.
use Rattle.std.specs.Prelude.{ℕ, ◌+◌, ◌-◌, Bool, false, true, cond, List, length, Some, None, Option, ◌==◌, nat_lt, slice_index}
use Rattle.std.specs.List.{between}
use Rattle.std.specs.Option.{option_eq}
use Rattle.automaton.specs.Automaton.{Automaton}
use Rattle.automaton.specs.Bracket.{role}
use Rattle.automaton.specs.Walk.{state_before}
use Rattle.automaton.specs.declared.role.BracketKind.{BracketKind}
use Rattle.automaton.specs.declared.role.BracketKind.TheVariants.{Round, Square, Curly}
use Rattle.automaton.specs.declared.role.Role.{Role}
use Rattle.automaton.specs.declared.role.Role.TheVariants.{Plain, Opening, Closing}
use Rattle.measure.specs.Unmatched.{openings_in, closings_in}
use Rattle.search.specs.Places.{least, greatest}
use Rattle.brackets.specs.declared.partner.Partner.{Partner}

abbrev pub is_live : Role BracketKind → Bool
is_live Plain = false
is_live (Opening kind) = true
is_live (Closing kind) = true

abbrev pub kind_of : Role BracketKind → Option BracketKind
kind_of Plain = None
kind_of (Opening kind) = Some kind
kind_of (Closing kind) = Some kind

abbrev pub same_kind : BracketKind → BracketKind → Bool
same_kind Round Round = true
same_kind Square Square = true
same_kind Curly Curly = true
same_kind one other = false

module _ (a : Automaton) (text : List ℕ) where
  -- The role of the byte at a place of the text.
  abbrev pub role_at : ℕ → Role BracketKind
  role_at place = cond (nat_lt place (length text)) (role a (state_before a text place) (slice_index text place)) Plain

  -- How many live openings and live closings there are from p to q, both included.
  abbrev pub openings : ℕ → ℕ → ℕ
  openings p q = openings_in a (state_before a text p) (between p (q + 1) text)

  abbrev pub closings : ℕ → ℕ → ℕ
  closings p q = closings_in a (state_before a text p) (between p (q + 1) text)

  -- As many of the one as of the other.
  abbrev pub level : ℕ → ℕ → Bool
  level p q = openings p q == closings p q

  -- An opening belongs to the least place above it up to which they are level; a closing to the greatest below it.
  abbrev pub partner_ahead : ℕ → Option ℕ
  partner_ahead p = least (λ q. level p q) (p + 1) (length text - (p + 1))

  abbrev pub partner_behind : ℕ → Option ℕ
  partner_behind p = greatest (λ q. level q p) p

  -- Whether the brackets at two places are of one kind.
  abbrev pub agree : ℕ → ℕ → Bool
  agree p q = option_eq same_kind (kind_of (role_at p)) (kind_of (role_at q))

  abbrev pub told : ℕ → Option ℕ → Option Partner
  told p None = None
  told p (Some q) = Some (record { place = q; agree = agree p q })

  abbrev pub partner_by : Role BracketKind → ℕ → Option Partner
  partner_by Plain p = None
  partner_by (Opening kind) p = told p (partner_ahead p)
  partner_by (Closing kind) p = told p (partner_behind p)

  -- The partner of the bracket at a place, if it has one.
  abbrev pub partner : ℕ → Option Partner
  partner p = partner_by (role_at p) p
