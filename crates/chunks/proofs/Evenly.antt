-- Bytes are cut into as few chunks as hold them, and evenly.
use Rattle.std.proofs.Common.{◌≡◌, ℕ, zero, suc, ◌+◌, ◌*◌, ◌≤◌, List, [], ◌∷◌, ◌++◌, length, take, drop, sym, ap, ◌∙◌, arith}
use Rattle.std.proofs.lemmas.List.{length-append, length-drop, length-take-le, append_assoc}
use Rattle.std.proofs.lemmas.Bool.Decides.{nat_tests}
use Rattle.std.specs.List.{AllByRecursion as All}
use Rattle.chunks.specs.Cut.{needed, share, pieces, cut, joined, Chunk}
use Rattle.chunks.specs.Laws.{Even, CutIsFewAndEven}
use Rattle.chunks.proofs.Cut.{span, span_all, cut_joined, cut_length, cut_chunks}

-- Chunks hold at most 64 bytes each.
few_bytes : (cs : List (List ℕ)) → All Chunk cs → length (joined cs) ≤ 64 * length cs
few_bytes [] each = omega arith
few_bytes (c ∷ cs) each = omega (arith, length-append c (joined cs), each.0.few_bytes, few_bytes cs each.1)

fewest : (cs : List (List ℕ)) → All Chunk cs → length (cut (joined cs)) ≤ length cs
fewest cs each = omega (arith, cut_length (joined cs), few_bytes cs each)

-- The piece behind some pieces is as long as it should be.
piece_at : (f : ℕ → ℕ) (k n : ℕ) (bytes : List ℕ) (front behind : List (List ℕ)) (c : List ℕ) → span f k n ≤ length bytes → pieces f k n bytes ≡ front ++ (c ∷ behind) → length c ≡ f (k + length front)
piece_at f k zero bytes [] behind c h e = absurd (cc)
piece_at f k zero bytes (x ∷ front) behind c h e = absurd (cc)
piece_at f k (suc n) bytes [] behind c h e =
    let first : take (f k) bytes ≡ c = cc in
    let here : k ≡ k + 0 = omega arith in
    ap length (sym first) ∙ length-take-le (f k) bytes (omega arith) ∙ ap f here
piece_at f k (suc n) bytes (x ∷ front) behind c h e =
    let next : suc k + length front ≡ k + suc (length front) = omega arith in
    let others : pieces f (suc k) n (drop (f k) bytes) ≡ front ++ (c ∷ behind) = cc in
    piece_at f (suc k) n (drop (f k) bytes) front behind c (omega (arith, length-drop (f k) bytes)) others ∙ ap f next

shares_even : (j q k l : ℕ) → k ≤ l → (share j q l ≤ share j q k) × (share j q k ≤ share j q l + 1)
unfolding share
shares_even j q k l h = (grind (arith, nat_tests), grind (arith, nat_tests))

even : (bytes : List ℕ) (front between behind : List (List ℕ)) (c d : List ℕ) → cut bytes ≡ front ++ (c ∷ (between ++ (d ∷ behind))) → Even c d
unfolding cut
even bytes front between behind c d e =
    let j = length bytes in
    let q = needed j in
    let first = piece_at (share j q) 0 q bytes front (between ++ (d ∷ behind)) c (omega (arith, span_all bytes)) e in
    let later = piece_at (share j q) 0 q bytes (front ++ (c ∷ between)) behind d (omega (arith, span_all bytes)) (e ∙ sym (append_assoc front (c ∷ between) (d ∷ behind))) in
    let order = shares_even j q (0 + length front) (0 + length (front ++ (c ∷ between))) (omega (arith, length-append front (c ∷ between))) in
    record { longer_first = omega (arith, first, later, order.0); by_one = omega (arith, first, later, order.1) }

pub cut_is_few_and_even : CutIsFewAndEven
cut_is_few_and_even = record { holds = cut_joined; chunks = cut_chunks; fewest = fewest; even = even }
