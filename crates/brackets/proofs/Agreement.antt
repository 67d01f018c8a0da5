-- Brackets agree by their kinds, however they are turned; a live role is any but the plain one.
use Rattle.std.proofs.Common.{◌≡◌, ℕ, true, List, Some, None, Option, refl, sym, ap, ◌∙◌, ⊎_elim}
use Rattle.std.specs.Option.{option_eq}
use Rattle.automaton.specs.Automaton.{Automaton}
use Rattle.automaton.specs.Bracket.{role}
use Rattle.automaton.specs.declared.role.BracketKind.{BracketKind}
use Rattle.automaton.specs.declared.role.BracketKind.TheVariants.{Round, Square, Curly}
use Rattle.automaton.specs.declared.role.Role.{Role}
use Rattle.automaton.specs.declared.role.Role.TheVariants.{Plain, Opening, Closing}
use Rattle.brackets.specs.Partner.{is_live, kind_of, same_kind, role_at, agree}
use Rattle.brackets.specs.Laws.{HasKind, BracketsAgreeByKind, LiveBracketsHaveRoles}

of_one_kind : (k : BracketKind) → same_kind k k ≡ true
of_one_kind Round = refl
of_one_kind Square = refl
of_one_kind Curly = refl

one_kind : (j k : BracketKind) → same_kind j k ≡ true → j ≡ k
one_kind Round Round e = refl
one_kind Round Square e = absurd (cc)
one_kind Round Curly e = absurd (cc)
one_kind Square Round e = absurd (cc)
one_kind Square Square e = refl
one_kind Square Curly e = absurd (cc)
one_kind Curly Round e = absurd (cc)
one_kind Curly Square e = absurd (cc)
one_kind Curly Curly e = refl

kind_here : (a : Automaton) (text : List ℕ) (p : ℕ) (kind : BracketKind) → HasKind a text p kind → kind_of (role_at a text p) ≡ Some kind
kind_here a text p kind is = ⊎_elim (λ e. ap kind_of e) (λ e. ap kind_of e) is

agreed : (a : Automaton) (text : List ℕ) (p q : ℕ) (j k : Option BracketKind) → kind_of (role_at a text p) ≡ j → kind_of (role_at a text q) ≡ k → agree a text p q ≡ option_eq same_kind j k
agreed a text p q j k here there = ap (λ o. option_eq same_kind o (kind_of (role_at a text q))) here ∙ ap (option_eq same_kind j) there

agreed_kinds : (a : Automaton) (text : List ℕ) (p q : ℕ) (j k : BracketKind) → HasKind a text p j → HasKind a text q k → agree a text p q ≡ same_kind j k
agreed_kinds a text p q j k here there = agreed a text p q (Some j) (Some k) (kind_here a text p j here) (kind_here a text q k there)

pub brackets_agree_by_kind : BracketsAgreeByKind
brackets_agree_by_kind = record {
  alike = λ a text p q kind here there. agreed_kinds a text p q kind kind here there ∙ of_one_kind kind;
  told_apart = λ a text p q j k here there e. one_kind j k (sym (agreed_kinds a text p q j k here there) ∙ e);
  with_no_other = λ a text p q kind here none. agreed a text p q (Some kind) None (kind_here a text p kind here) (ap kind_of none);
}

live_role : (r : Role BracketKind) → (r ≡ Plain → ⊥) → is_live r ≡ true
live_role Plain ne = absurd (ne refl)
live_role (Opening kind) ne = refl
live_role (Closing kind) ne = refl

role_live : (r : Role BracketKind) → is_live r ≡ true → r ≡ Plain → ⊥
role_live Plain live e = cc
role_live (Opening kind) live e = cc
role_live (Closing kind) live e = cc

pub live_brackets_have_roles : LiveBracketsHaveRoles
live_brackets_have_roles = record {
  brackets = λ a state byte h. live_role (role a state byte) h;
  no_others = λ a state byte e. role_live (role a state byte) e;
}
