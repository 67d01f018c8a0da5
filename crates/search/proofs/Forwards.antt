-- Searches over two texts, one behind the other, and that a stop is the first place where the search stops.
use Rattle.std.proofs.Common.{◌≡◌, ℕ, suc, ◌+◌, Bool, true, false, cond, List, [], ◌∷◌, ◌++◌, length, get_or, take, Some, None, Option, sym, refl, ap, ◌∙◌, add_assoc, zero-add, one-add, arith}
use Rattle.std.proofs.lemmas.Bool.{cond-true, cond-false}
use Rattle.search.specs.declared.stop.Stop.{Stop}
use Rattle.search.specs.Forwards.{then, through, shifted, stop_or, stop, after, StopsAt}

module _ {A : Type 0} where
  abbrev stop_of : ℕ → A → Bool → Stop A
  stop_of n a s = record { passed = n; at = a; stopped = s }

  pub shift_none : (s : Stop A) → shifted 0 s ≡ s
  shift_none s = ap (λ n. stop_of n s.at s.stopped) (zero-add s.passed)

  shift_after : (n : ℕ) (s : Stop A) (go : A → Stop A) → shifted n (after s go) ≡ after (shifted n s) go
  shift_after n s go = by s.stopped
    where
      by : (b : Bool) → shifted n (cond b s (shifted s.passed (go s.at))) ≡ cond b (shifted n s) (shifted (n + s.passed) (go s.at))
      by true = refl
      by false = ap (λ k. stop_of k (go s.at).at (go s.at).stopped) (sym (add_assoc n s.passed (go s.at).passed))

  then_then : (o : Option A) (f g : A → Option A) → then (then o f) g ≡ then o (λ x. then (f x) g)
  then_then None f g = refl
  then_then (Some x) f g = refl

  then_same : (o : Option A) (f g : A → Option A) → ((x : A) → f x ≡ g x) → then o f ≡ then o g
  then_same None f g h = refl
  then_same (Some x) f g h = h x

  -- A stop that is the end of a search in two texts, and one behind which it goes on.
  pub after_stopped : (s first : Stop A) (go : A → Stop A) → s ≡ first → s.stopped ≡ true → s ≡ after first go
  after_stopped s first go e stopped = e ∙ sym (cond-true first.stopped first (shifted first.passed (go first.at)) (sym (ap (λ z. z.stopped) e) ∙ stopped))

  pub after_running : (s first : Stop A) (go : A → Stop A) → s ≡ first → s.stopped ≡ false → shifted s.passed (go s.at) ≡ after first go
  after_running s first go e running =
      ap (λ z. shifted z.passed (go z.at)) e ∙ sym (cond-false first.stopped first (shifted first.passed (go first.at)) (sym (ap (λ z. z.stopped) e) ∙ running))

  stop_or_same : (a : A) (o : Option A) (f g : A → Stop A) (go : A → Stop A) → ((x : A) → f x ≡ after (g x) go) → stop_or a o f ≡ after (stop_or a o g) go
  stop_or_same a None f g go h = refl
  stop_or_same a (Some x) f g go h = ap (shifted 1) (h x) ∙ shift_after 1 (g x) go

module _ {A : Type 0} (next : A → ℕ → Option A) where
  -- A search that runs through the first text goes on in the second.
  pub through_append : (a : A) (xs ys : List ℕ) → through next a (xs ++ ys) ≡ then (through next a xs) (λ x. through next x ys)
  through_append a [] ys = refl
  through_append a (b ∷ xs) ys =
      then_same (next a b) (λ x. through next x (xs ++ ys)) (λ x. then (through next x xs) (λ z. through next z ys)) (λ x. through_append x xs ys) ∙ sym (then_then (next a b) (λ x. through next x xs) (λ z. through next z ys))

  pub stop_append : (a : A) (xs ys : List ℕ) → stop next a (xs ++ ys) ≡ after (stop next a xs) (λ x. stop next x ys)
  stop_append a [] ys = sym (shift_none (stop next a ys))
  stop_append a (b ∷ xs) ys = stop_or_same a (next a b) (λ x. stop next x (xs ++ ys)) (λ x. stop next x xs) (λ z. stop next z ys) (λ x. stop_append x xs ys)

  -- A text that is run through is all passed.
  pub stop_through : (a : A) (xs : List ℕ) (x : A) → through next a xs ≡ Some x → stop next a xs ≡ record { passed = length xs; at = x; stopped = false }
  stop_through a [] x e = let same : a ≡ x = cc in ap (λ z. stop_of 0 z false) same
  stop_through a (b ∷ xs) x e = on (next a b) (λ z h. stop_through z xs x h) e
    where
      on : (o : Option A) → ((z : A) → through next z xs ≡ Some x → stop next z xs ≡ stop_of (length xs) x false) → then o (λ z. through next z xs) ≡ Some x → stop_or a o (λ z. stop next z xs) ≡ stop_of (suc (length xs)) x false
      on None h f = absurd (cc)
      on (Some z) h f = ap (shifted 1) (h z f) ∙ ap (λ n. stop_of n x false) (omega arith)

  pub stops_at : (a : A) (xs : List ℕ) → StopsAt next a xs (stop next a xs)
  stops_at a [] = record { within = omega arith; runs = refl; before_byte = λ h. absurd (cc); at_end = λ h. refl }
  stops_at a (b ∷ xs) = on (next a b) refl (λ x. stops_at x xs)
    where
      on : (o : Option A) → next a b ≡ o → ((x : A) → StopsAt next x xs (stop next x xs)) → StopsAt next a (b ∷ xs) (stop_or a o (λ x. stop next x xs))
      on None e h = record { within = omega arith; runs = refl; before_byte = λ k. (omega arith, e); at_end = λ k. absurd (cc) }
      on (Some x) e h =
          let s = stop next x xs in
          let rest = h x in
          let step : take (1 + s.passed) (b ∷ xs) ≡ b ∷ take s.passed xs = ap (λ n. take n (b ∷ xs)) (one-add s.passed) in
          let here : get_or (b ∷ xs) (1 + s.passed) 0 ≡ get_or xs s.passed 0 = ap (λ n. get_or (b ∷ xs) n 0) (one-add s.passed) in
          record {
            within = omega (arith, rest.within);
            runs = ap (through next a) step ∙ ap (λ o. then o (λ z. through next z (take s.passed xs))) e ∙ rest.runs;
            before_byte = λ k. (omega (arith, (rest.before_byte k).0), ap (next s.at) here ∙ (rest.before_byte k).1);
            at_end = λ k. omega (arith, rest.at_end k);
          }

  -- A search that stops in the first text has stopped in both; one that does not goes on behind it.
  pub stops_before : (a : A) (xs ys : List ℕ) (s : Stop A) → s ≡ stop next a xs → s.stopped ≡ true → s ≡ stop next a (xs ++ ys)
  stops_before a xs ys s e stopped = after_stopped s (stop next a xs) (λ x. stop next x ys) e stopped ∙ sym (stop_append a xs ys)

  pub goes_behind : (a : A) (xs ys : List ℕ) (s : Stop A) → s ≡ stop next a xs → s.stopped ≡ false → shifted s.passed (stop next s.at ys) ≡ stop next a (xs ++ ys)
  goes_behind a xs ys s e running = after_running s (stop next a xs) (λ x. stop next x ys) e running ∙ sym (stop_append a xs ys)
