-- A search from right to left over two texts, one behind the other.
use Rattle.std.proofs.Common.{◌≡◌, ℕ, suc, ◌+◌, ◌-◌, ◌≤◌, Bool, true, false, cond, List, [], ◌∷◌, ◌++◌, length, take, Some, None, Option, sym, refl, ap, ◌∙◌, ⊎_elim, add-zero, add_assoc, arith}
use Rattle.std.proofs.lemmas.List.{take_all}
use Rattle.std.proofs.lemmas.Bool.{cond_both, cases_lt}
use Rattle.search.specs.declared.stop.Stop.{Stop}
use Rattle.search.specs.Forwards.{shifted, after}
use Rattle.search.specs.Backwards.{forwards, leftwards, back_stop}
use Rattle.search.proofs.Forwards.{after_stopped, after_running}

module _ {A : Type 0} where
  abbrev stop_of : ℕ → A → Bool → Stop A
  stop_of n a s = record { passed = n; at = a; stopped = s }

  after_none : (s : Stop A) → s ≡ after s (λ x. stop_of 0 x false)
  after_none s = by s.stopped
    where
      by : (b : Bool) → stop_of s.passed s.at b ≡ cond b (stop_of s.passed s.at b) (stop_of (s.passed + 0) s.at false)
      by true = refl
      by false = ap (λ n. stop_of n s.at false) (sym (add-zero s.passed))

  left_shift : (n : ℕ) (s : Stop A) (o : Option A) → leftwards (shifted n s) o ≡ shifted n (leftwards s o)
  left_shift n s None = refl
  left_shift n s (Some x) = ap (λ k. stop_of k x false) (add_assoc n s.passed 1)

module _ {F A : Type 0} (fore : F → ℕ → F) (prev : F → ℕ → A → Option A) where
  -- one byte more to the left
  abbrev step : F → ℕ → Stop A → Stop A
  step f b s = cond s.stopped s (leftwards s (prev f b s.at))

  step_shift : (f : F) (b n : ℕ) (s : Stop A) → step f b (shifted n s) ≡ shifted n (step f b s)
  step_shift f b n s = by s.stopped
    where
      by : (t : Bool) → cond t (shifted n s) (leftwards (shifted n s) (prev f b s.at)) ≡ shifted n (cond t s (leftwards s (prev f b s.at)))
      by true = refl
      by false = left_shift n s (prev f b s.at)

  step_after : (f : F) (b : ℕ) (s : Stop A) (go : A → Stop A) → step f b (after s go) ≡ after s (λ x. step f b (go x))
  step_after f b s go = by s.stopped refl
    where
      by : (t : Bool) → s.stopped ≡ t → step f b (cond t s (shifted s.passed (go s.at))) ≡ cond t s (shifted s.passed (step f b (go s.at)))
      by true e = ap (λ t. cond t s (leftwards s (prev f b s.at))) e
      by false e = step_shift f b s.passed (go s.at)

  pub back_stop_append : (f : F) (xs ys : List ℕ) (a : A) → back_stop fore prev f (xs ++ ys) a ≡ after (back_stop fore prev (forwards fore f xs) ys a) (λ x. back_stop fore prev f xs x)
  back_stop_append f [] ys a = after_none (back_stop fore prev f ys a)
  back_stop_append f (b ∷ xs) ys a =
      ap (step f b) (back_stop_append (fore f b) xs ys a) ∙ step_after f b (back_stop fore prev (forwards fore (fore f b) xs) ys a) (λ x. back_stop fore prev (fore f b) xs x)

module _ {F A : Type 0} (fore : F → ℕ → F) (prev : F → ℕ → A → Option A) where
  left_few : (n : ℕ) (s : Stop A) (o : Option A) → s.passed ≤ n → (leftwards s o).passed ≤ suc n
  left_few n s None h = omega arith
  left_few n s (Some x) h = omega arith

  -- A search passes no more bytes than there are.
  pub back_few : (f : F) (xs : List ℕ) (a : A) → (back_stop fore prev f xs a).passed ≤ length xs
  back_few f [] a = omega arith
  back_few f (b ∷ xs) a =
      let s = back_stop fore prev (fore f b) xs a in
      let few = back_few (fore f b) xs a in
      cond_both s.stopped s (leftwards s (prev f b s.at)) (λ z. z.passed ≤ suc (length xs)) (λ e. omega arith) (λ e. left_few (length xs) s (prev f b s.at) few)

  -- A search that stops in the second text has stopped in both; one that does not goes on before it.
  pub stops_behind : (f : F) (xs ys : List ℕ) (a : A) (s : Stop A) → s ≡ back_stop fore prev (forwards fore f xs) ys a → s.stopped ≡ true → s ≡ back_stop fore prev f (xs ++ ys) a
  stops_behind f xs ys a s e stopped = after_stopped s (back_stop fore prev (forwards fore f xs) ys a) (λ x. back_stop fore prev f xs x) e stopped ∙ sym (back_stop_append fore prev f xs ys a)

  pub goes_before : (f : F) (xs ys : List ℕ) (a : A) (s : Stop A) → s ≡ back_stop fore prev (forwards fore f xs) ys a → s.stopped ≡ false → shifted s.passed (back_stop fore prev f xs s.at) ≡ back_stop fore prev f (xs ++ ys) a
  goes_before f xs ys a s e running = after_running s (back_stop fore prev (forwards fore f xs) ys a) (λ x. back_stop fore prev f xs x) e running ∙ sym (back_stop_append fore prev f xs ys a)

  -- The bytes before a place that lie behind a text: the state before them is that behind the text.
  pub state_behind : (f : F) (n : ℕ) (xs ys : List ℕ) (a : A) → back_stop fore prev (forwards fore f xs) (take (n - length xs) ys) a ≡ back_stop fore prev (forwards fore f (take n xs)) (take (n - length xs) ys) a
  state_behind f n xs ys a =
      ⊎_elim (λ h. let none : n - length xs ≡ 0 = omega arith in ap (λ k. back_stop fore prev (forwards fore f xs) (take k ys) a) none ∙ sym (ap (λ k. back_stop fore prev (forwards fore f (take n xs)) (take k ys) a) none))
      (λ h. ap (λ l. back_stop fore prev (forwards fore f l) (take (n - length xs) ys) a) (sym (take_all n xs h)))
      (cases_lt n (length xs))
