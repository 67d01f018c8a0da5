-- Where the searches for a partner stop is the partner.
-- The depth of a search is how much deeper the text is at the place that it has come to than outside of the two brackets.
use Rattle.std.proofs.Common.{◌≡◌, ℕ, zero, suc, ◌+◌, ◌-◌, ◌<◌, ◌≤◌, cond, List, [], ◌∷◌, length, get_or, take, drop, Some, None, Option, sym, refl, ap, ◌∙◌, ⊎_elim, add-one, arith, length-take}
use Rattle.std.proofs.lemmas.List.{drop_all, drop_more, take_more}
use Rattle.std.proofs.lemmas.Bool.{cases_lt, cond-true, cond-false}
use Rattle.automaton.specs.Automaton.{Automaton}
use Rattle.automaton.specs.Bracket.{role}
use Rattle.automaton.specs.Walk.{walk}
use Rattle.automaton.specs.declared.role.BracketKind.{BracketKind}
use Rattle.automaton.specs.declared.role.Role.{Role}
use Rattle.automaton.specs.declared.role.Role.TheVariants.{Plain, Opening, Closing}
use Rattle.automaton.proofs.Walk.{walk_more}
use Rattle.measure.specs.Bounded.{longest}
use Rattle.measure.specs.Unmatched.{opens, closes}
use Rattle.search.specs.declared.stop.Stop.{Stop}
use Rattle.search.specs.Places.{least, greatest}
use Rattle.search.specs.Forwards.{shifted, stop, stop_or, after}
use Rattle.search.specs.Backwards.{leftwards, back_stop}
use Rattle.search.proofs.Backwards.{back_stop_append}
use Rattle.brackets.specs.Partner.{role_at, level}
use Rattle.brackets.proofs.Depth.{opened, closed, role_here, role_outside, opened_more, closed_more, level_by, uneven_by}
use Rattle.locate.specs.Depth.{deepest, depth_ahead, depth_behind}
use Rattle.locate.specs.PartnerAhead.{nested, nested_in, ahead_on}
use Rattle.locate.specs.PartnerBehind.{traced, trace_on, behind_on}
use Rattle.locate.specs.ComesToPartner.{stopped_before, stopped_behind, AheadComesToPartner, BehindComesToPartner}
use Rattle.locate.specs.declared.nested.Nested.{Nested}
use Rattle.locate.proofs.Nesting.{goes_deeper, goes_shallower, stops_shallow, traces, ran}

-- A place one byte further on, and one further back.
one_on : {A : Type 0} (n : ℕ) (s : Stop A) → stopped_before n (shifted 1 s) ≡ stopped_before (n + 1) s
one_on n s = let same : n + (1 + s.passed) ≡ (n + 1) + s.passed = omega arith in ap (λ k. cond s.stopped (Some k) None) same

one_back : {A : Type 0} (n : ℕ) (s : Stop A) → stopped_behind (suc n) (shifted (0 + 1) s) ≡ stopped_behind n s
one_back n s = let same : (suc n - ((0 + 1) + s.passed)) - 1 ≡ (n - s.passed) - 1 = omega arith in ap (λ k. cond s.stopped (Some k) None) same

module _ (a : Automaton) (text : List ℕ) (p : ℕ) where
  abbrev state : ℕ → ℕ
  state n = walk a 0 (take n text)

  -- The search ahead, from place n on.
  abbrev ahead : ℕ → Nested → Stop Nested
  ahead n w = stop (ahead_on a) w (drop n text)

  -- So deep is the text before place n, seen from the opening at p.
  abbrev DeepAhead : ℕ → ℕ → Type 0
  DeepAhead n d = d + closed a text n + opened a text p ≡ opened a text n + closed a text p

  abbrev ComesAhead : ℕ → ℕ → ℕ → Type 0
  ComesAhead k n d = stopped_before n (ahead n (nested (state n) d)) ≡ least (level a text p) n k

  module _ (k n : ℕ) (above : p < n) (rest : (e : ℕ) → 0 < e → e + k ≤ deepest → DeepAhead (n + 1) e → ComesAhead k (n + 1) e) where
    -- Place n is no partner, and the search goes on behind it.
    goes_on : (e : ℕ) → 0 < e → e + k ≤ deepest → DeepAhead (n + 1) e → stopped_before n (shifted 1 (ahead (n + 1) (nested (state (n + 1)) e))) ≡ least (level a text p) n (suc k)
    goes_on e h few deep =
        one_on n (ahead (n + 1) (nested (state (n + 1)) e))
        ∙ rest e h few deep
        ∙ ap (λ m. least (level a text p) m k) (add-one n)
        ∙ sym (cond-false (level a text p n) (Some n) (least (level a text p) (suc n) k) (uneven_by a text p n (omega arith) (λ z. omega arith)))

    over_ahead : (r : Role BracketKind) (d : ℕ) → role_at a text n ≡ r → 0 < d → d + suc k ≤ deepest → DeepAhead n d → stopped_before n (stop_or (nested (state n) d) (nested_in (state (n + 1)) (depth_ahead r d)) (λ w. ahead (n + 1) w)) ≡ least (level a text p) n (suc k)
    over_ahead Plain d is h few deep =
        let o = ap opens is in
        let c = ap closes is in
        goes_on d h (omega arith) (omega (arith, opened_more a text n, closed_more a text n))
    over_ahead (Opening kind) d is h few deep =
        let o = ap opens is in
        let c = ap closes is in
        ap (λ e. stopped_before n (stop_or (nested (state n) d) (nested_in (state (n + 1)) e) (λ w. ahead (n + 1) w))) (goes_deeper d (omega arith))
        ∙ goes_on (d + 1) (omega arith) (omega arith) (omega (arith, opened_more a text n, closed_more a text n))
    over_ahead (Closing kind) d is h few deep =
        let o = ap opens is in
        let c = ap closes is in
        let seen = λ (e : Option ℕ). stopped_before n (stop_or (nested (state n) d) (nested_in (state (n + 1)) e) (λ w. ahead (n + 1) w)) in
        ⊎_elim
        (λ more.
        ap seen (goes_shallower d more) ∙ goes_on (d - 1) (omega arith) (omega arith) (omega (arith, opened_more a text n, closed_more a text n)))
        (λ last.
        let here : n + 0 ≡ n = omega arith in
        ap seen (stops_shallow d last)
        ∙ ap Some here
        ∙ sym (cond-true (level a text p n) (Some n) (least (level a text p) (suc n) k) (level_by a text p n (omega arith) (omega (arith, opened_more a text n, closed_more a text n)))))
        (cases_lt 1 d)

  comes_ahead : (k n d : ℕ) → n + k ≡ length text → p < n → 0 < d → d + k ≤ deepest → DeepAhead n d → ComesAhead k n d
  comes_ahead zero n d e above h few deep = ap (λ l. stopped_before n (stop (ahead_on a) (nested (state n) d) l)) (drop_all n text (omega arith))
  comes_ahead (suc k) n d e above h few deep =
      let within : n < length text = omega arith in
      let b = get_or text n 0 in
      let go = λ (w : Nested). ahead (n + 1) w in
      let at = nested (state n) d in
      ap (λ l. stopped_before n (stop (ahead_on a) at l)) (drop_more text n 0 within)
      ∙ ap (λ t. stopped_before n (stop_or at (nested_in t (depth_ahead (role a (state n) b) d)) go)) (sym (walk_more a 0 text n within))
      ∙ ap (λ r. stopped_before n (stop_or at (nested_in (state (n + 1)) (depth_ahead r d)) go)) (sym (role_here a text n within))
      ∙ over_ahead k n above (λ x i j l. comes_ahead k (n + 1) x (omega arith) (omega arith) i j l) (role_at a text n) d refl h few deep

  -- The search behind, from place n back.
  abbrev behind : ℕ → ℕ → Stop ℕ
  behind n d = back_stop (trace_on a) (behind_on a) (Some (traced 0 0)) (take n text) d

  -- So deep is the text before place n, seen from behind the closing at p.
  abbrev DeepBehind : ℕ → ℕ → Type 0
  DeepBehind n d = d + closed a text n + opened a text (p + 1) ≡ closed a text (p + 1) + opened a text n

  abbrev ComesBehind : ℕ → ℕ → Type 0
  ComesBehind n d = stopped_behind n (behind n d) ≡ greatest (λ q. level a text q p) n

  module _ (n : ℕ) (below : n < p) (rest : (e : ℕ) → 0 < e → e + n ≤ deepest → DeepBehind n e → ComesBehind n e) where
    goes_back : (e : ℕ) → 0 < e → e + n ≤ deepest → DeepBehind n e → stopped_behind (suc n) (shifted (0 + 1) (behind n e)) ≡ greatest (λ q. level a text q p) (suc n)
    goes_back e h few deep =
        one_back n (behind n e)
        ∙ rest e h few deep
        ∙ sym (cond-false (level a text n p) (Some n) (greatest (λ q. level a text q p) n) (uneven_by a text n p (omega arith) (λ z. omega arith)))

    over_behind : (r : Role BracketKind) (d : ℕ) → role_at a text n ≡ r → 0 < d → d + suc n ≤ deepest → DeepBehind (n + 1) d → stopped_behind (suc n) (after (leftwards (ran 0 d) (depth_behind r d)) (λ x. behind n x)) ≡ greatest (λ q. level a text q p) (suc n)
    over_behind Plain d is h few deep =
        let o = ap opens is in
        let c = ap closes is in
        goes_back d h (omega arith) (omega (arith, opened_more a text n, closed_more a text n))
    over_behind (Opening kind) d is h few deep =
        let o = ap opens is in
        let c = ap closes is in
        let seen = λ (e : Option ℕ). stopped_behind (suc n) (after (leftwards (ran 0 d) e) (λ x. behind n x)) in
        ⊎_elim
        (λ more.
        ap seen (goes_shallower d more) ∙ goes_back (d - 1) (omega arith) (omega arith) (omega (arith, opened_more a text n, closed_more a text n)))
        (λ last.
        let here : (suc n - 0) - 1 ≡ n = omega arith in
        ap seen (stops_shallow d last)
        ∙ ap Some here
        ∙ sym (cond-true (level a text n p) (Some n) (greatest (λ q. level a text q p) n) (level_by a text n p (omega arith) (omega (arith, opened_more a text n, closed_more a text n)))))
        (cases_lt 1 d)
    over_behind (Closing kind) d is h few deep =
        let o = ap opens is in
        let c = ap closes is in
        ap (λ e. stopped_behind (suc n) (after (leftwards (ran 0 d) e) (λ x. behind n x))) (goes_deeper d (omega arith))
        ∙ goes_back (d + 1) (omega arith) (omega arith) (omega (arith, opened_more a text n, closed_more a text n))

  comes_behind : (n d : ℕ) → n ≤ p → p < length text → n ≤ longest → 0 < d → d + n ≤ deepest → DeepBehind n d → ComesBehind n d
  comes_behind zero d below within short h few deep = refl
  comes_behind (suc n) d below within short h few deep =
      let here : n < length text = omega arith in
      let b = get_or text n 0 in
      let next : suc n ≡ n + 1 = omega arith in
      let front = take n text in
      let start = Some (traced 0 0) in
      let see = λ (s : Stop ℕ). stopped_behind (suc n) (after s (λ x. behind n x)) in
      let deeper = ap (λ m. d + closed a text m + opened a text (p + 1)) (sym next) ∙ deep ∙ ap (λ m. closed a text (p + 1) + opened a text m) next in
      ap (λ l. stopped_behind (suc n) (back_stop (trace_on a) (behind_on a) start l d)) (ap (λ m. take m text) next ∙ take_more text n 0 here)
      ∙ ap (stopped_behind (suc n)) (back_stop_append (trace_on a) (behind_on a) start front (b ∷ []) d)
      ∙ ap (λ f. see (back_stop (trace_on a) (behind_on a) f (b ∷ []) d)) (traces a front 0 0 (omega (arith, length-take n text)))
      ∙ ap (λ r. see (leftwards (ran 0 d) (depth_behind r d))) (sym (role_here a text n here))
      ∙ over_behind n (omega arith) (λ x i j l. comes_behind n x (omega arith) within (omega arith) i j l) (role_at a text n) d refl h (omega arith) deeper

  -- Only a byte of the text has a role.
  live_within : 0 < opens (role_at a text p) + closes (role_at a text p) → p < length text
  live_within some =
      ⊎_elim (λ h. h)
      (λ h. let o = ap opens (role_outside a text p h) in let c = ap closes (role_outside a text p h) in absurd (omega arith))
      (cases_lt p (length text))

pub ahead_comes_to_partner : AheadComesToPartner
ahead_comes_to_partner a text p kind short is =
    let o = ap opens is in
    let c = ap closes is in
    let within = live_within a text p (omega arith) in
    comes_ahead a text p (length text - (p + 1)) (p + 1) 1 (omega arith) (omega arith) (omega arith) (omega arith) (omega (arith, opened_more a text p, closed_more a text p))

pub behind_comes_to_partner : BehindComesToPartner
behind_comes_to_partner a text p kind short is =
    let o = ap opens is in
    let c = ap closes is in
    let within = live_within a text p (omega arith) in
    comes_behind a text p p 1 (omega arith) within (omega arith) (omega arith) (omega arith) (omega (arith, opened_more a text p, closed_more a text p))
