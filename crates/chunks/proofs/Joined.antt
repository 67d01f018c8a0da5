-- The bytes of chunks: over `++`, and where each chunk begins.
use Rattle.std.proofs.Common.{◌≡◌, ℕ, zero, suc, ◌+◌, ◌-◌, ◌<◌, ◌≤◌, List, [], ◌∷◌, ◌++◌, length, take, drop, sym, refl, ap, ◌∙◌, subst, ⊎_elim, append_assoc, arith, take-add}
use Rattle.std.proofs.lemmas.List.{length-append, take-append-drop, take_at, drop_at}
use Rattle.std.proofs.lemmas.Bool.{cases_lt}
use Rattle.std.specs.List.{AllByRecursion as All}
use Rattle.chunks.specs.Cut.{joined, Chunk}
use Rattle.chunks.specs.SizedSpot.{sized_spot_in}
use Rattle.chunks.specs.declared.sized_spot.SizedSpot.{SizedSpot}
use Rattle.chunks.proofs.SizedSpotting.{sized_here, sized_behind}

pub joined_append : (xs ys : List (List ℕ)) → joined (xs ++ ys) ≡ joined xs ++ joined ys
joined_append [] ys = refl
joined_append (x ∷ xs) ys = ap (λ l. x ++ l) (joined_append xs ys) ∙ sym (append_assoc x (joined xs) (joined ys))

-- Where chunk n begins.
abbrev pub start : List (List ℕ) → ℕ → ℕ
start cs n = length (joined (take n cs))

halves : (cs : List (List ℕ)) (n : ℕ) → joined cs ≡ joined (take n cs) ++ joined (drop n cs)
halves cs n = sym (ap joined (take-append-drop n cs)) ∙ joined_append (take n cs) (drop n cs)

-- The chunks before chunk n have the bytes before its begin, the others those behind it.
pub joined_take : (cs : List (List ℕ)) (n : ℕ) → joined (take n cs) ≡ take (start cs n) (joined cs)
joined_take cs n = sym (ap (take (start cs n)) (halves cs n) ∙ take_at (joined (take n cs)) (joined (drop n cs)) (start cs n) refl)

pub joined_drop : (cs : List (List ℕ)) (n : ℕ) → joined (drop n cs) ≡ drop (start cs n) (joined cs)
joined_drop cs n = sym (ap (drop (start cs n)) (halves cs n) ∙ drop_at (joined (take n cs)) (joined (drop n cs)) (start cs n) refl)

pub start_within : (cs : List (List ℕ)) (n : ℕ) → start cs n ≤ length (joined cs)
start_within cs n = omega (arith, ap length (halves cs n), length-append (joined (take n cs)) (joined (drop n cs)))

-- Later chunks begin later.
pub start_grows : (cs : List (List ℕ)) (n k : ℕ) → start cs n ≤ start cs (n + k)
start_grows cs n k =
    let both : start cs (n + k) ≡ length (joined (take n cs) ++ joined (take k (drop n cs))) = ap (λ l. length (joined l)) (take-add n k cs) ∙ ap length (joined_append (take n cs) (take k (drop n cs))) in
    omega (arith, both, length-append (joined (take n cs)) (joined (take k (drop n cs))))

pub start_monotone : (cs : List (List ℕ)) (m n : ℕ) → m ≤ n → start cs m ≤ start cs n
start_monotone cs m n h = let sum : m + (n - m) ≡ n = omega arith in subst (λ k. start cs m ≤ start cs k) sum (start_grows cs m (n - m))

-- What a sized spot says of a place within the text.
pub record Spotted (cs : List (List ℕ)) (p : ℕ) (s : SizedSpot) : Type 0 where
  pub some_chunk : s.chunk < length cs
  pub begins : start cs s.chunk + s.inside ≡ p
  pub inside_it : s.inside < s.size
  pub ends : start cs (s.chunk + 1) ≡ start cs s.chunk + s.size

spotted_first : (c : List ℕ) (cs : List (List ℕ)) (p : ℕ) → p < length c → Spotted (c ∷ cs) p (record { chunk = 0; inside = p; size = length c })
spotted_first c cs p h = record {
  some_chunk = omega arith;
  begins = omega arith;
  inside_it = h;
  ends = omega (arith, length-append c []);
}

spotted_later : (c : List ℕ) (cs : List (List ℕ)) (p : ℕ) → length c ≤ p → (s : SizedSpot) → Spotted cs (p - length c) s → Spotted (c ∷ cs) p (record { chunk = 1 + s.chunk; inside = s.inside; size = s.size })
spotted_later c cs p h s at =
    let one : (n : ℕ) → start (c ∷ cs) (suc n) ≡ length c + start cs n = λ n. length-append c (joined (take n cs)) in
    let first : 1 + s.chunk ≡ suc s.chunk = omega arith in
    let second : 1 + s.chunk + 1 ≡ suc (s.chunk + 1) = omega arith in
    let here = ap (start (c ∷ cs)) first ∙ one s.chunk in
    let next = ap (start (c ∷ cs)) second ∙ one (s.chunk + 1) in
    record {
      some_chunk = omega arith;
      begins = omega arith;
      inside_it = at.inside_it;
      ends = omega arith;
    }

pub spotted : (cs : List (List ℕ)) (p : ℕ) → p < length (joined cs) → Spotted cs p (sized_spot_in cs p)
spotted [] p h = absurd (omega arith)
spotted (c ∷ cs) p h =
    ⊎_elim (λ e. subst (Spotted (c ∷ cs) p) (sym (sized_here c cs p e)) (spotted_first c cs p e))
    (λ e. subst (Spotted (c ∷ cs) p) (sym (sized_behind c cs p e)) (spotted_later c cs p e _ (spotted cs (p - length c) (omega (arith, length-append c (joined cs))))))
    (cases_lt p (length c))

-- Of chunk n itself: its first byte, if it has one, and its last byte have their spot in it.
pub spotted_alone : (cs : List (List ℕ)) (p n : ℕ) (s : SizedSpot) → Spotted cs p s → start cs n ≤ p → p < start cs (n + 1) → s.chunk ≡ n
spotted_alone cs p n s at low high =
    ⊎_elim (λ h. let later = start_monotone cs (s.chunk + 1) n (omega arith) in let begins = at.begins in absurd (omega arith))
    (λ h. ⊎_elim (λ k. let later = start_monotone cs (n + 1) s.chunk (omega arith) in absurd (omega arith)) (λ k. omega arith) (cases_lt n s.chunk))
    (cases_lt s.chunk n)

-- A place further on has its spot in no earlier chunk.
pub spots_ordered : (cs : List (List ℕ)) (p q : ℕ) (s t : SizedSpot) → Spotted cs p s → Spotted cs q t → p ≤ q → s.chunk ≤ t.chunk
spots_ordered cs p q s t at bt h =
    ⊎_elim (λ k. let later = start_monotone cs (t.chunk + 1) s.chunk (omega arith) in absurd (omega arith)) (λ k. k)
    (cases_lt t.chunk s.chunk)

-- Chunks of 1 to 64 bytes.
pub start_step : (cs : List (List ℕ)) → All Chunk cs → (n : ℕ) → n < length cs → (start cs n < start cs (n + 1)) × (start cs (n + 1) ≤ start cs n + 64)
start_step [] each n h = absurd (omega arith)
start_step (c ∷ cs) each zero h = let long = length-append c [] in (omega arith, omega arith)
start_step (c ∷ cs) each (suc n) h =
    let rest = start_step cs each.1 n (omega arith) in
    let low = rest.0 in
    let high = rest.1 in
    let here = length-append c (joined (take n cs)) in
    let sum : suc n + 1 ≡ suc (n + 1) = omega arith in
    let next = ap (start (c ∷ cs)) sum ∙ length-append c (joined (take (n + 1) cs)) in
    (omega arith, omega arith)

pub spot_small : (cs : List (List ℕ)) → All Chunk cs → (p : ℕ) (s : SizedSpot) → Spotted cs p s → s.size ≤ 64
spot_small cs each p s at = let step = (start_step cs each s.chunk at.some_chunk).1 in omega arith
