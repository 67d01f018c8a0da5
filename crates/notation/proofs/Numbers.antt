-- The value of digits, tested at each digit, is that of all: it never falls with a digit more.
use Rattle.std.proofs.Common.{◌≡◌, ℕ, ◌≤◌, ◌<◌, ltb, cond, Bool, true, false, ◌&&◌, List, [], ◌∷◌, Some, None, Option, Bor, Iter, MatchOption, refl, sym, ap, ◌∙◌, ⊎_elim, arith}
use Rattle.std.proofs.lemmas.List.{nil_from_length}
use Rattle.std.specs.Iterator.{Yields}
use Rattle.std.specs.List.{FoldsTo}
use Rattle.std.proofs.lemmas.Fn.{fronts}
use Rattle.std.proofs.lemmas.Grind.{common_steps}
use Rattle.std.proofs.lemmas.Bool.{cases_lt, lt-ltb, le-ltb, and_right}
use Rattle.notation.specs.Number.{is_digit, all_digits, longer, longer_within, value_from}

-- What the digits that are left give behind others of a value.
abbrev pub number_from : ℕ → List ℕ → Option ℕ
number_from value ds = cond (all_digits ds && ltb (value_from value ds) 4294967296) (Some (value_from value ds)) None

value_grows : (value : ℕ) (ds : List ℕ) → value ≤ value_from value ds
value_grows value [] = omega arith
value_grows value (b ∷ bs) = omega (arith, value_grows (longer value b) bs)

stops : (digit : Bool) (value : ℕ) (bs : List ℕ) → cond (digit && ltb value 4294967296) (Some value) None ≡ None → cond ((digit && all_digits bs) && ltb (value_from value bs) 4294967296) (Some (value_from value bs)) None ≡ None
stops false value bs over = refl
stops true value bs over =
    ⊎_elim
    (λ below. let within = lt-ltb value 4294967296 below in (cc))
    (λ above. let far = le-ltb (value_from value bs) 4294967296 (omega (arith, value_grows value bs)) in ap (λ t. cond t (Some (value_from value bs)) None) (and_right (all_digits bs) (ltb (value_from value bs) 4294967296) far))
    (cases_lt value 4294967296)

-- A digit that cannot be taken ends it.
pub number_stops : (value b : ℕ) (bs : List ℕ) → longer_within value b ≡ None → number_from value (b ∷ bs) ≡ None
number_stops value b bs over = stops (is_digit b) (longer value b) bs over

-- One that is taken leads on.
number_goes : (value b more : ℕ) (bs : List ℕ) → longer_within value b ≡ Some more → (number_from value (b ∷ bs) ≡ number_from more bs) × (more < 4294967296)
number_goes value b more bs taken = grind (arith, common_steps)

-- Digits that are taken one by one, up to the end or to one that cannot be taken.
module _ {F : Type 0} (R : F × ℕ → Bor ℕ → F × ℕ → Type 0) (takes : (p : F × ℕ) (b : Bor ℕ) (q : F × ℕ) → R p b q → longer_within p.1 b.now ≡ Some q.1) where
  pub so_far : (bs : List (Bor ℕ)) (s t : Iter ℕ) (p q : F × ℕ) → p.1 < 4294967296 → Yields fronts s bs t → FoldsTo R p bs q → (number_from p.1 s.rest.now ≡ number_from q.1 t.rest.now) × (q.1 < 4294967296)
  so_far [] s t p q small yields folds = (cc, rw (sym (ap (λ p. p.1) folds)) small)
  so_far (b ∷ bs) s t p q small yields folds =
      let next = number_goes p.1 b.now folds.0.1 yields.0.rest.now (takes p b folds.0 folds.1) in
      let more = so_far bs yields.0 t folds.0 q next.1 yields.2 folds.2 in
      (ap (number_from p.1) yields.1 ∙ next.0 ∙ more.0, more.1)

pub number_ends : (b : Option (Bor ℕ)) (t u : Iter ℕ) (value : ℕ) (r : Option ℕ) (L : Bor ℕ → Type 0) → value < 4294967296 → fronts t b u → MatchOption b (r ≡ Some value) L → ((b : Bor ℕ) → L b → (r ≡ None) × (longer_within value b.now ≡ None)) → r ≡ number_from value t.rest.now
number_ends None t u value r L small steps whole stops = let none = nil_from_length t.rest.now steps.0 in let fits = lt-ltb value 4294967296 small in whole ∙ sym (ap (number_from value) none ∙ ap (λ t. cond t (Some value) None) fits)
number_ends (Some b) t u value r L small steps stop stops = (stops b stop).0 ∙ sym (ap (number_from value) steps ∙ number_stops value b.now u.rest.now (stops b stop).1)
