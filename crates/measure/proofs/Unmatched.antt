-- How unmatched brackets of two runs of bytes join, and what they say by depth.
use Rattle.std.proofs.Common.{◌≡◌, ℕ, suc, ◌+◌, ◌-◌, ◌<◌, ◌≤◌, eqb, List, [], ◌∷◌, ◌++◌, length, get_or, take, drop, sym, refl, ap, ◌∙◌, ⊎_elim, arith}
use Rattle.std.proofs.lemmas.List.{take-append-drop, take_more}
use Rattle.std.proofs.lemmas.Bool.{cases_lt, cond-false, ne_eqb}
use Rattle.automaton.specs.Automaton.{Automaton, Lawful}
use Rattle.automaton.specs.Class.{mark}
use Rattle.automaton.specs.Walk.{walk}
use Rattle.automaton.specs.Bracket.{bracket, role}
use Rattle.automaton.specs.declared.role.Role.{Role}
use Rattle.automaton.specs.declared.role.Role.TheVariants.{Plain, Opening, Closing}
use Rattle.measure.specs.Unmatched.{opens, closes, openings_in, closings_in, unmatched_closings, unmatched_openings, Unmatched, CountedByDepth}

pub one_role : {K : Type 0} (r : Role K) → opens r + closes r ≤ 1
one_role Plain = omega arith
one_role (Opening kind) = omega arith
one_role (Closing kind) = omega arith

module _ (a : Automaton) where
  pub openings_append : (s : ℕ) (xs ys : List ℕ) → openings_in a s (xs ++ ys) ≡ openings_in a s xs + openings_in a (walk a s xs) ys
  openings_append s [] ys = omega arith
  openings_append s (b ∷ xs) ys = let more = openings_append (a.step s b) xs ys in omega arith

  pub closings_append : (s : ℕ) (xs ys : List ℕ) → closings_in a s (xs ++ ys) ≡ closings_in a s xs + closings_in a (walk a s xs) ys
  closings_append s [] ys = omega arith
  closings_append s (b ∷ xs) ys = let more = closings_append (a.step s b) xs ys in omega arith

  -- Closings lead by no more than those that are unmatched.
  pub leads : (s : ℕ) (xs : List ℕ) → closings_in a s xs ≤ openings_in a s xs + unmatched_closings a s xs
  leads s [] = omega arith
  leads s (b ∷ xs) = let more = leads (a.step s b) xs in omega arith

  pub unmatched_some : (s : ℕ) (xs : List ℕ) → unmatched_closings a s xs ≤ closings_in a s xs
  unmatched_some s [] = omega arith
  unmatched_some s (b ∷ xs) = let more = unmatched_some (a.step s b) xs in omega arith

  brackets_few : (s : ℕ) (xs : List ℕ) → openings_in a s xs + closings_in a s xs ≤ length xs
  brackets_few s [] = omega arith
  brackets_few s (b ∷ xs) = let more = brackets_few (a.step s b) xs in omega (arith, one_role (role a s b))

  pub unmatched_few : (s : ℕ) (xs : List ℕ) → unmatched_closings a s xs + unmatched_openings a s xs ≤ length xs
  unmatched_few s xs = omega (arith, unmatched_some s xs, brackets_few s xs, leads s xs)

  -- An opening that the first run leaves takes a closing that the second leaves.
  pub unmatched_closings_append : (s : ℕ) (xs ys : List ℕ) → unmatched_closings a s (xs ++ ys) ≡ unmatched_closings a s xs + (unmatched_closings a (walk a s xs) ys - unmatched_openings a s xs)
  unmatched_closings_append s [] ys = omega arith
  unmatched_closings_append s (b ∷ xs) ys =
      let t = a.step s b in
      let more = unmatched_closings_append t xs ys in
      let lead = leads t xs in
      omega arith

  pub unmatched_openings_append : (s : ℕ) (xs ys : List ℕ) → unmatched_openings a s (xs ++ ys) ≡ unmatched_openings a (walk a s xs) ys + (unmatched_openings a s xs - unmatched_closings a (walk a s xs) ys)
  unmatched_openings_append s xs ys =
      omega (arith, unmatched_closings_append s xs ys, openings_append s xs ys, closings_append s xs ys, leads s xs, leads (walk a s xs) ys)

  reach : (s : ℕ) (xs : List ℕ) → (place : ℕ) × (place ≤ length xs) × (closings_in a s (take place xs) ≡ openings_in a s (take place xs) + unmatched_closings a s xs)
  reach s [] = (0, omega arith, refl)
  reach s (b ∷ xs) =
      let t = a.step s b in
      let more = reach t xs in
      let c = closes (role a s b) in
      let o = opens (role a s b) in
      ⊎_elim (λ h. (0, omega arith, omega arith)) (λ h. (suc more.0, omega arith, omega arith)) (cases_lt (c + unmatched_closings a t xs) o)

  pub unmatched_said : (s : ℕ) (xs : List ℕ) → Unmatched a s xs (unmatched_closings a s xs) (unmatched_openings a s xs)
  unmatched_said s xs = record {
    never_more = λ place.
        let front = take place xs in
        let more = ap (unmatched_closings a s) (sym (take-append-drop place xs)) ∙ unmatched_closings_append s front (drop place xs) in
        omega (arith, leads s front);
    reached = reach s xs;
    left_open = omega (arith, leads s xs);
  }

  unmatched_alone : (s : ℕ) (xs : List ℕ) (closings openings : ℕ) → Unmatched a s xs closings openings → (closings ≡ unmatched_closings a s xs) × (openings ≡ unmatched_openings a s xs)
  unmatched_alone s xs closings openings other =
      let own = unmatched_said s xs in
      let at_most = own.never_more other.reached.0 in
      let at_least_lem = other.never_more own.reached.0 in
      let same : closings ≡ unmatched_closings a s xs = omega (arith, other.reached.2, own.reached.2) in
      (same, omega (arith, other.left_open, own.left_open))

  pub counted_by_depth : CountedByDepth a
  counted_by_depth = record { right = unmatched_said; alone = unmatched_alone }

-- From a state that is none of the grammar's, nothing is a bracket.
module _ (a : Automaton) (lawful : Lawful a) where
  outside_plain : (s b : ℕ) → a.count ≤ s → role a s b ≡ Plain
  outside_plain s b h = cond-false (eqb (a.class s b) mark) (bracket b) Plain (ne_eqb (a.class s b) mark (λ e. omega (arith, lawful.outside_blank s b h)))

  pub outside_walk : (s : ℕ) (xs : List ℕ) → a.count ≤ s → walk a s xs ≡ s
  outside_walk s [] h = refl
  outside_walk s (b ∷ xs) h = ap (λ t. walk a t xs) (lawful.outside_stays s b h) ∙ outside_walk s xs h

  pub outside_openings : (s : ℕ) (xs : List ℕ) → a.count ≤ s → openings_in a s xs ≡ 0
  outside_openings s [] h = refl
  outside_openings s (b ∷ xs) h =
      let plain = ap opens (outside_plain s b h) in
      let more = ap (λ t. openings_in a t xs) (lawful.outside_stays s b h) ∙ outside_openings s xs h in
      omega arith

  pub outside_closings : (s : ℕ) (xs : List ℕ) → a.count ≤ s → closings_in a s xs ≡ 0
  outside_closings s [] h = refl
  outside_closings s (b ∷ xs) h =
      let plain = ap closes (outside_plain s b h) in
      let more = ap (λ t. closings_in a t xs) (lawful.outside_stays s b h) ∙ outside_closings s xs h in
      omega arith

-- One byte more: a closing takes an opening that is left, or is itself left; an opening is left.
module _ (a : Automaton) (s : ℕ) (xs : List ℕ) (i : ℕ) (within : i < length xs) where
  pub closings_more : unmatched_closings a s (take (i + 1) xs) ≡ unmatched_closings a s (take i xs) + (closes (role a (walk a s (take i xs)) (get_or xs i 0)) - unmatched_openings a s (take i xs))
  closings_more =
      let front = take i xs in
      let b = get_or xs i 0 in
      let more = ap (unmatched_closings a s) (take_more xs i 0 within) ∙ unmatched_closings_append a s front (b ∷ []) in
      omega (arith, one_role (role a (walk a s front) b))

  pub openings_more : unmatched_openings a s (take (i + 1) xs) ≡ opens (role a (walk a s (take i xs)) (get_or xs i 0)) + (unmatched_openings a s (take i xs) - closes (role a (walk a s (take i xs)) (get_or xs i 0)))
  openings_more =
      let front = take i xs in
      let b = get_or xs i 0 in
      let more = ap (unmatched_openings a s) (take_more xs i 0 within) ∙ unmatched_openings_append a s front (b ∷ []) in
      omega (arith, one_role (role a (walk a s front) b))
