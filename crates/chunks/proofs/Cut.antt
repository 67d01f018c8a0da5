-- The laws of cutting: the chunks joined are the bytes again, each has 1 to 64 bytes, and there are as few as can be.
use Rattle.std.proofs.Common.{◌≡◌, ℕ, zero, suc, ◌+◌, ◌-◌, ◌*◌, ◌/◌, ◌%◌, ◌<◌, ◌≤◌, List, ◌∷◌, ◌++◌, length, take, drop, sym, refl, ap, ◌∙◌, subst, ⊎_elim, add-zero, mul-le-mul_right, suc-mul, mul_comm, div-add-mod', zero-add, arith}
use Rattle.std.proofs.lemmas.List.{take-append-drop, drop-drop, length-drop, length-take-le, nil_from_length}
use Rattle.std.proofs.lemmas.Nat.{div_below, le-div, mod_below}
use Rattle.std.proofs.lemmas.Bool.Decides.{nat_tests}
use Rattle.std.proofs.lemmas.Bool.{cases_lt}
use Rattle.std.specs.List.{AllByRecursion as All}
use Rattle.chunks.specs.Cut.{needed, share, begin, pieces, chunk_at, part, cut, joined, Chunk}

module _ (j q : ℕ) where
  pub begin_none : begin j q 0 ≡ 0
  unfolding begin
  begin_none = omega (arith, mul_comm 0 (j / q))

  pub begin_more : (k : ℕ) → begin j q (suc k) ≡ begin j q k + share j q k
  unfolding begin share
  begin_more k = let more = suc-mul k (j / q) in grind (arith, nat_tests)

  pub begin_all : 0 < q → begin j q q ≡ j
  unfolding begin
  begin_all some = omega (arith, mod_below j q some, mul_comm q (j / q), div-add-mod' j q)

  pub begin_grows : (k n : ℕ) → begin j q k ≤ begin j q (k + n)
  begin_grows k zero = let e : k ≡ k + 0 = omega arith in omega (arith, ap (begin j q) e)
  begin_grows k (suc n) = let e : k + suc n ≡ suc (k + n) = omega arith in omega (arith, ap (begin j q) e, begin_more (k + n), begin_grows k n)

  -- Where q is what j bytes need, a chunk has 1 to 64 bytes.
  pub share_some : q ≡ needed j → 0 < j → (k : ℕ) → 1 ≤ share j q k
  unfolding share
  share_some e some k = let pos : 0 < q = omega arith in let enough : 1 * q ≤ j = omega arith in let quotient = le-div 1 j q pos enough in grind (arith, nat_tests)

  pub share_few : q ≡ needed j → 0 < j → (k : ℕ) → share j q k ≤ 64
  unfolding share
  share_few e some k =
      let pos : 0 < q = omega arith in
      let small : j < 65 * q = omega arith in
      let quotient = div_below j q 65 pos small in
      let whole = div-add-mod' j q in
      let most : (64 ≤ j / q) → j % q ≡ 0 = λ h. let high = mul-le-mul_right q h in omega arith in
      grind (arith, nat_tests, most)

-- The sum of f k, f (k + 1), .., n of them.
abbrev pub span : (ℕ → ℕ) → ℕ → ℕ → ℕ
span f k zero = 0
span f k (suc n) = f k + span f (suc k) n

pub span_begin : (j q k n : ℕ) → begin j q k + span (share j q) k n ≡ begin j q (k + n)
span_begin j q k zero = let e : k ≡ k + 0 = omega arith in omega (arith, ap (begin j q) e)
span_begin j q k (suc n) =
    let e : suc k + n ≡ k + suc n = omega arith in
    omega (arith, ap (begin j q) e, begin_more j q k, span_begin j q (suc k) n)

module _ (f : ℕ → ℕ) where
  pub pieces_length : (k n : ℕ) (bytes : List ℕ) → length (pieces f k n bytes) ≡ n
  pieces_length k zero bytes = refl
  pieces_length k (suc n) bytes = ap suc (pieces_length (suc k) n (drop (f k) bytes))

  -- Pieces of all of the bytes, joined, are the bytes again.
  pub pieces_joined : (k n : ℕ) (bytes : List ℕ) → length bytes ≤ span f k n → joined (pieces f k n bytes) ≡ bytes
  pieces_joined k zero bytes h = sym (nil_from_length bytes (omega arith))
  pieces_joined k (suc n) bytes h =
      ap (λ l. take (f k) bytes ++ l) (pieces_joined (suc k) n (drop (f k) bytes) (simp length-drop (omega arith))) ∙ take-append-drop (f k) bytes

  -- The first n pieces, and the others.
  pub pieces_split : (k n m : ℕ) (bytes : List ℕ) → pieces f k (n + m) bytes ≡ pieces f k n bytes ++ pieces f (k + n) m (drop (span f k n) bytes)
  pieces_split k zero m bytes = simp (zero-add, add-zero)
  pieces_split k (suc n) m bytes =
      let s = span f (suc k) n in
      let sum : suc n + m ≡ suc (n + m) = omega arith in
      let next : suc k + n ≡ k + suc n = omega arith in
      let rest = drop-drop s (f k) bytes in
      let more = pieces_split (suc k) n m (drop (f k) bytes) in
      ap (λ l. pieces f k l bytes) sum ∙ cc

  -- Each piece is as long as it should be.
  pub pieces_each : (P : List ℕ → Type 0) (k n : ℕ) (bytes : List ℕ) → span f k n ≤ length bytes → ((piece : List ℕ) (i : ℕ) → length piece ≡ f i → P piece) → All P (pieces f k n bytes)
  pieces_each P k zero bytes h each = tt
  pieces_each P k (suc n) bytes h each =
      (each (take (f k) bytes) k (length-take-le (f k) bytes (omega arith)), pieces_each P (suc k) n (drop (f k) bytes) (simp length-drop (omega arith)) each)

module _ (bytes : List ℕ) where
  pub span_all : length bytes ≡ span (share (length bytes) (needed (length bytes))) 0 (needed (length bytes))
  span_all =
      let j = length bytes in
      let q = needed j in
      let e : 0 + q ≡ q = omega arith in
      ⊎_elim
      (λ h. let none : q ≡ 0 = omega arith in omega (arith, ap (span (share j q) 0) none))
      (λ h. omega (arith, span_begin j q 0 q, ap (begin j q) e, begin_none j q, begin_all j q (omega arith)))
      (cases_lt j 1)

  -- Chunks joined are the bytes that were cut.
  pub cut_joined : joined (cut bytes) ≡ bytes
  unfolding cut
  cut_joined = let j = length bytes in pieces_joined (share j (needed j)) 0 (needed j) bytes (omega (arith, span_all))

  -- There are as few chunks as can be.
  pub cut_length : length (cut bytes) ≡ needed (length bytes)
  unfolding cut
  cut_length = let j = length bytes in pieces_length (share j (needed j)) 0 (needed j) bytes

  -- Each chunk has 1 to 64 bytes.
  pub cut_chunks : All Chunk (cut bytes)
  unfolding cut
  cut_chunks =
      let j = length bytes in
      let q = needed j in
      ⊎_elim
      (λ h. let none : q ≡ 0 = omega arith in subst (λ n. All Chunk (pieces (share j q) 0 n bytes)) (sym none) tt)
      (λ h. pieces_each (share j q) Chunk 0 q bytes (omega (arith, span_all))
      (λ piece i e. record { some_byte = omega (arith, share_some j q refl h i); few_bytes = omega (arith, share_few j q refl h i) }))
      (cases_lt j 1)

module _ (bytes : List ℕ) (q : ℕ) where
  -- The chunks before one chunk, that chunk, and those behind it.
  pub part_split : (k h r : ℕ) → part bytes q k (h + suc r) ≡ part bytes q k h ++ (chunk_at bytes q (k + h) ∷ part bytes q (suc (k + h)) r)
  part_split k h r =
      let j = length bytes in
      let whole = pieces_split (share j q) k h (suc r) (drop (begin j q k) bytes) in
      let here = drop-drop (span (share j q) k h) (begin j q k) bytes in
      let at = span_begin j q k h in
      let next = begin_more j q (k + h) in
      let rest = drop-drop (share j q (k + h)) (begin j q (k + h)) bytes in
      cc

  -- A chunk ends where the next one begins, and lies within the bytes.
  pub chunk_within : 0 < q → (k : ℕ) → k < q → begin (length bytes) q k + share (length bytes) q k ≤ length bytes
  chunk_within some k h =
      let j = length bytes in
      let e : suc k + (q - suc k) ≡ q = omega arith in
      omega (arith, begin_more j q k, begin_grows j q (suc k) (q - suc k), ap (begin j q) e, begin_all j q some)

  pub chunk_long : 0 < q → (k : ℕ) → k < q → length (chunk_at bytes q k) ≡ share (length bytes) q k
  chunk_long some k h =
      let j = length bytes in
      length-take-le (share j q k) (drop (begin j q k) bytes) (omega (arith, length-drop (begin j q k) bytes, chunk_within some k h))

  pub chunk_fits : q ≡ needed (length bytes) → (k : ℕ) → k < q → Chunk (chunk_at bytes q k)
  chunk_fits e k h =
      let j = length bytes in
      let pos : 0 < q = omega arith in
      let some : 0 < j = omega arith in
      record { some_byte = omega (arith, chunk_long pos k h, share_some j q e some k); few_bytes = omega (arith, chunk_long pos k h, share_few j q e some k) }

-- All chunks from the first on are those that the bytes are cut into.
pub cut_part : (bytes : List ℕ) → cut bytes ≡ part bytes (needed (length bytes)) 0 (needed (length bytes))
unfolding cut
cut_part bytes = let j = length bytes in let q = needed j in ap (λ n. pieces (share j q) 0 q (drop n bytes)) (sym (begin_none j q))

-- A chunk begins within the bytes.
pub begin_within : (j q k : ℕ) → 0 < q → k ≤ q → begin j q k ≤ j
begin_within j q k some h = let e : k + (q - k) ≡ q = omega arith in omega (arith, begin_grows j q k (q - k), ap (begin j q) e, begin_all j q some)
