-- What the definitions of partners come to, as relations: where a partner is, that two partners belong to each other, which brackets
-- agree, and which roles are live.
-- Each of these laws stands on the contract of a function of src/laws.rt, so that it is proved.
use Rattle.std.specs.Prelude.{◌≡◌, ℕ, ◌<◌, true, false, ◌⊎◌, List, length, Some, None, Option}
use Rattle.automaton.specs.Automaton.{Automaton}
use Rattle.automaton.specs.Bracket.{role, Live}
use Rattle.automaton.specs.declared.role.BracketKind.{BracketKind}
use Rattle.automaton.specs.declared.role.Role.TheVariants.{Plain, Opening, Closing}
use Rattle.brackets.specs.Partner.{is_live, role_at, level, agree, partner}
use Rattle.brackets.specs.declared.partner.Partner.{Partner}

-- The partner of an opening: the nearest place above it, and within the text, up to which they are level.
pub record LiesAhead (a : Automaton) (text : List ℕ) (p : ℕ) (x : Partner) : Type 0 where
  pub above : p < x.place
  pub within : x.place < length text
  pub levelled : level a text p x.place ≡ true
  pub nearest : (q : ℕ) → p < q → q < x.place → level a text p q ≡ false
  pub kinds : x.agree ≡ agree a text p x.place

-- The partner of a closing: the nearest place below it from which they are level.
pub record LiesBehind (a : Automaton) (text : List ℕ) (p : ℕ) (x : Partner) : Type 0 where
  pub below : x.place < p
  pub levelled : level a text x.place p ≡ true
  pub nearest : (q : ℕ) → x.place < q → q < p → level a text q p ≡ false
  pub kinds : x.agree ≡ agree a text p x.place

-- Without a partner there is no such place.
abbrev pub NearestAhead : Automaton → List ℕ → ℕ → Option Partner → Type 0
NearestAhead a text p None = (q : ℕ) → p < q → q < length text → level a text p q ≡ false
NearestAhead a text p (Some x) = LiesAhead a text p x

abbrev pub NearestBehind : Automaton → List ℕ → ℕ → Option Partner → Type 0
NearestBehind a text p None = (q : ℕ) → q < p → level a text q p ≡ false
NearestBehind a text p (Some x) = LiesBehind a text p x

-- At each place of a text, and at every other number, by what stands there.
pub record PartnersAreNearest : Type 0 where
  pub openings : (a : Automaton) (text : List ℕ) (p : ℕ) (kind : BracketKind) → role_at a text p ≡ Opening kind → NearestAhead a text p (partner a text p)
  pub closings : (a : Automaton) (text : List ℕ) (p : ℕ) (kind : BracketKind) → role_at a text p ≡ Closing kind → NearestBehind a text p (partner a text p)
  pub others : (a : Automaton) (text : List ℕ) (p : ℕ) → role_at a text p ≡ Plain → partner a text p ≡ None

-- The partner's partner: where one bracket belongs to another, that one belongs to it, and both are told the same of their kinds.
pub record PartnersArePaired : Type 0 where
  pub openings : (a : Automaton) (text : List ℕ) (p : ℕ) (kind : BracketKind) (x : Partner) → role_at a text p ≡ Opening kind → partner a text p ≡ Some x → ((other : BracketKind) × (role_at a text x.place ≡ Closing other)) × (partner a text x.place ≡ Some (record { place = p; agree = x.agree }))
  pub closings : (a : Automaton) (text : List ℕ) (p : ℕ) (kind : BracketKind) (x : Partner) → role_at a text p ≡ Closing kind → partner a text p ≡ Some x → ((other : BracketKind) × (role_at a text x.place ≡ Opening other)) × (partner a text x.place ≡ Some (record { place = p; agree = x.agree }))

-- A live bracket of a kind: it opens or it closes.
abbrev pub HasKind : Automaton → List ℕ → ℕ → BracketKind → Type 0
HasKind a text p kind = (role_at a text p ≡ Opening kind) ⊎ (role_at a text p ≡ Closing kind)

-- Whichever of two brackets open or close, they agree exactly where they are of one kind; no bracket agrees with a byte that is none.
pub record BracketsAgreeByKind : Type 0 where
  pub alike : (a : Automaton) (text : List ℕ) (p q : ℕ) (kind : BracketKind) → HasKind a text p kind → HasKind a text q kind → agree a text p q ≡ true
  pub told_apart : (a : Automaton) (text : List ℕ) (p q : ℕ) (j k : BracketKind) → HasKind a text p j → HasKind a text q k → agree a text p q ≡ true → j ≡ k
  pub with_no_other : (a : Automaton) (text : List ℕ) (p q : ℕ) (kind : BracketKind) → HasKind a text p kind → role_at a text q ≡ Plain → agree a text p q ≡ false

-- A byte's role is live exactly where the byte is a live bracket.
pub record LiveBracketsHaveRoles : Type 0 where
  pub brackets : (a : Automaton) (state byte : ℕ) → Live a state byte → is_live (role a state byte) ≡ true
  pub no_others : (a : Automaton) (state byte : ℕ) → is_live (role a state byte) ≡ true → Live a state byte
