-- The laws of chunks written over a run: over `++`, outside the run, and as a replacement.
use Rattle.std.proofs.Common.{◌≡◌, ℕ, zero, suc, ◌+◌, ◌-◌, ◌<◌, ◌≤◌, ◌&&◌, ltb, leb, List, [], ◌∷◌, ◌++◌, length, take, drop, sym, refl, ap, ◌∙◌, arith}
use Rattle.std.proofs.lemmas.List.{take-append-drop, length-take-le, length-drop, drop-drop}
use Rattle.std.proofs.lemmas.Bool.{cond-true, cond-false, and_from, and_left, and_right, le-leb, lt-leb, lt-ltb, le-ltb}
use Rattle.chunks.specs.Cut.{chunk_at, part, replaced}
use Rattle.chunks.specs.Over.{renewed, over}
use Rattle.chunks.proofs.Cut.{part_split}

module _ (bytes : List ℕ) (count from to : ℕ) where
  pub renewed_in : (n : ℕ) (c : List ℕ) → from ≤ n → n < to → renewed bytes count from to n c ≡ chunk_at bytes count (n - from)
  renewed_in n c p q = cond-true (leb from n && ltb n to) _ _ (and_from (leb from n) (ltb n to) (le-leb from n p) (lt-ltb n to q))

  pub renewed_before : (n : ℕ) (c : List ℕ) → n < from → renewed bytes count from to n c ≡ c
  renewed_before n c p = cond-false (leb from n && ltb n to) _ _ (and_left (leb from n) (ltb n to) (lt-leb from n p))

  pub renewed_behind : (n : ℕ) (c : List ℕ) → to ≤ n → renewed bytes count from to n c ≡ c
  renewed_behind n c p = cond-false (leb from n && ltb n to) _ _ (and_right (leb from n) (ltb n to) (le-ltb n to p))

  pub over_append : (n : ℕ) (xs ys : List (List ℕ)) → over bytes count from to n (xs ++ ys) ≡ over bytes count from to n xs ++ over bytes count from to (n + length xs) ys
  over_append n [] ys = let e : n ≡ n + 0 = omega arith in ap (λ k. over bytes count from to k ys) e
  over_append n (x ∷ xs) ys =
      let e : suc n + length xs ≡ n + suc (length xs) = omega arith in
      ap (λ l. renewed bytes count from to n x ∷ l) (over_append (suc n) xs ys ∙ ap (λ k. over bytes count from to (suc n) xs ++ over bytes count from to k ys) e)

  pub over_before : (n : ℕ) (xs : List (List ℕ)) → n + length xs ≤ from → over bytes count from to n xs ≡ xs
  over_before n [] h = refl
  over_before n (x ∷ xs) h = let here = renewed_before n x (omega arith) in let rest = over_before (suc n) xs (omega arith) in cc

  pub over_behind : (n : ℕ) (xs : List (List ℕ)) → to ≤ n → over bytes count from to n xs ≡ xs
  over_behind n [] h = refl
  over_behind n (x ∷ xs) h = let here = renewed_behind n x h in let rest = over_behind (suc n) xs (omega arith) in cc

  -- Within the run, new chunks, as many as there are places left in it; behind it the old ones.
  over_run : (n : ℕ) (xs : List (List ℕ)) → from ≤ n → (k : ℕ) → n + k ≡ to → k ≤ length xs → over bytes count from to n xs ≡ part bytes count (n - from) k ++ drop k xs
  over_run n xs p zero e h = over_behind n xs (omega arith)
  over_run n [] p (suc k) e h = let no_Chunk : ⊥ = omega arith in absurd no_Chunk
  over_run n (x ∷ xs) p (suc k) e h =
      let here = renewed_in n x p (omega arith) in
      let rest = over_run (suc n) xs (omega arith) k (omega arith) (omega arith) in
      let first = part_split bytes count (n - from) 0 k in
      let sum : 0 + suc k ≡ suc k = omega arith in
      let same : n - from + 0 ≡ n - from = omega arith in
      let next : suc (n - from + 0) ≡ suc n - from = omega arith in
      let a = ap (part bytes count (n - from)) sum in
      let b = ap (chunk_at bytes count) same in
      let c = ap (λ q. part bytes count q k) next in
      cc

  -- A run replaced by as many chunks is written over.
  pub over_replaced : (xs : List (List ℕ)) → from ≤ to → to ≤ length xs → over bytes count from to 0 xs ≡ replaced from to (part bytes count 0 (to - from)) xs
  over_replaced xs order within =
      let front = take from xs in
      let back = drop from xs in
      let long : length front ≡ from = length-take-le from xs (omega arith) in
      let at : 0 + length front ≡ from = omega arith in
      let none : from - from ≡ 0 = omega arith in
      let sum : from + (to - from) ≡ to = omega arith in
      ap (over bytes count from to 0) (sym (take-append-drop from xs))
      ∙ over_append 0 front back
      ∙ ap (λ l. l ++ over bytes count from to (0 + length front) back) (over_before 0 front (omega arith))
      ∙ ap (λ n. front ++ over bytes count from to n back) at
      ∙ ap (λ l. front ++ l) (over_run from back (omega arith) (to - from) sum (omega (arith, length-drop from xs)))
      ∙ ap (λ n. front ++ (part bytes count n (to - from) ++ drop (to - from) back)) none
      ∙ ap (λ l. front ++ (part bytes count 0 (to - from) ++ l)) (drop-drop (to - from) from xs ∙ ap (λ n. drop n xs) sum)
