-- The laws of spots over `++`, and of counting.
use Rattle.std.proofs.Common.{◌≡◌, ℕ, zero, suc, ◌+◌, ◌-◌, ◌<◌, ◌≤◌, ltb, List, [], ◌∷◌, ◌++◌, length, sym, ap, ◌∙◌, ⊎_elim, arith}
use Rattle.std.specs.List.{range_with_len}
use Rattle.std.proofs.lemmas.List.{length-append}
use Rattle.std.proofs.lemmas.Bool.Decides.{nat_tests}
use Rattle.std.proofs.lemmas.Bool.{cases_lt, cond-true, cond-false, lt-ltb, le-ltb}
use Rattle.chunks.specs.declared.spot.Spot.{Spot}
use Rattle.chunks.specs.Footprint.{count, below}
use Rattle.chunks.specs.Cut.{joined}
use Rattle.chunks.specs.Spot.{shifted, spot_in}

pub spot_here : (c : List ℕ) (cs : List (List ℕ)) (p : ℕ) → p < length c → spot_in (c ∷ cs) p ≡ record { chunk = 0; inside = p }
spot_here c cs p h = cond-true (ltb p (length c)) _ _ (lt-ltb p (length c) h)

pub spot_behind : (c : List ℕ) (cs : List (List ℕ)) (p : ℕ) → length c ≤ p → spot_in (c ∷ cs) p ≡ shifted 1 (spot_in cs (p - length c))
spot_behind c cs p h = cond-false (ltb p (length c)) _ _ (le-ltb p (length c) h)

-- A place within the first chunks, or behind them.
pub spot_left : (xs ys : List (List ℕ)) (p : ℕ) → p < length (joined xs) → spot_in (xs ++ ys) p ≡ spot_in xs p
spot_left [] ys p h = let no : ⊥ = omega arith in absurd no
spot_left (c ∷ xs) ys p h =
    ⊎_elim (λ e. spot_here c (xs ++ ys) p e ∙ sym (spot_here c xs p e))
    (λ e. spot_behind c (xs ++ ys) p e ∙ ap (shifted 1) (spot_left xs ys (p - length c) (omega (arith, length-append c (joined xs)))) ∙ sym (spot_behind c xs p e))
    (cases_lt p (length c))

pub spot_right : (xs ys : List (List ℕ)) (p : ℕ) → length (joined xs) ≤ p → spot_in (xs ++ ys) p ≡ shifted (length xs) (spot_in ys (p - length (joined xs)))
spot_right [] ys p h =
    let s = spot_in ys p in
    let e : p ≡ p - 0 = omega arith in
    let zero_more : s.chunk ≡ 0 + s.chunk = omega arith in
    let lift : s ≡ shifted 0 s = λ z. record { chunk = zero_more z; inside = s.inside } in
    lift ∙ ap (λ q. shifted 0 (spot_in ys q)) e
spot_right (c ∷ xs) ys p h =
    let long = length-append c (joined xs) in
    let s = spot_in ys (p - length c - length (joined xs)) in
    let e : p - length c - length (joined xs) ≡ p - length (c ++ joined xs) = omega arith in
    let sum : 1 + (length xs + s.chunk) ≡ suc (length xs) + s.chunk = omega arith in
    let lift : shifted 1 (shifted (length xs) s) ≡ shifted (suc (length xs)) s = λ z. record { chunk = sum z; inside = s.inside } in
    spot_behind c (xs ++ ys) p (omega arith) ∙ ap (shifted 1) (spot_right xs ys (p - length c) (omega arith)) ∙ lift ∙ ap (λ q. shifted (suc (length xs)) (spot_in ys q)) e

-- The numbers from a on, k of them, each once.
pub count_counting : (a k j : ℕ) → count (range_with_len a k) j + below a j ≡ below (a + k) j
count_counting a zero j = grind (arith, nat_tests)
count_counting a (suc k) j = let rest = count_counting (a + 1) k j in grind (arith, nat_tests)

-- No more chunks lie before a place than there are.
pub spot_few : (cs : List (List ℕ)) (p : ℕ) → (spot_in cs p).chunk ≤ length cs
spot_few [] p = omega arith
spot_few (c ∷ cs) p =
    ⊎_elim (λ e. let at = ap (λ (s : Spot). s.chunk) (spot_here c cs p e) in omega arith)
    (λ e. let at = ap (λ (s : Spot). s.chunk) (spot_behind c cs p e) in omega (arith, spot_few cs (p - length c)))
    (cases_lt p (length c))

-- A place in the text is in one of its chunks.
pub spot_within : (cs : List (List ℕ)) (p : ℕ) → p < length (joined cs) → (spot_in cs p).chunk < length cs
spot_within [] p h = let no : ⊥ = omega arith in absurd no
spot_within (c ∷ cs) p h =
    ⊎_elim (λ e. let at = ap (λ (s : Spot). s.chunk) (spot_here c cs p e) in omega arith)
    (λ e. let at = ap (λ (s : Spot). s.chunk) (spot_behind c cs p e) in omega (arith, spot_within cs (p - length c) (omega (arith, length-append c (joined cs)))))
    (cases_lt p (length c))
