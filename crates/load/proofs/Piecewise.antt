-- A text loaded piece by piece: the chunks so far and the rest are the text, as few as can be, and full as long as there is a rest.
use Rattle.std.proofs.Common.{◌≡◌, ℕ, ◌+◌, ◌-◌, ◌*◌, ◌<◌, ◌≤◌, min, Bool, true, ◌&&◌, leb, List, [], ◌++◌, length, take, drop, sym, refl, ap, ◌∙◌, append-nil, append_assoc, arith, length-append}
use Rattle.std.proofs.lemmas.List.{take_all, drop_all, nil_from_length}
use Rattle.std.proofs.lemmas.Bool.Decides.{nat_tests}
use Rattle.chunks.specs.Cut.{needed, joined, cut, replaced}
use Rattle.chunks.proofs.Cut.{cut_joined, cut_length}
use Rattle.chunks.proofs.Joined.{joined_append}

pub record SoFar (text rest : List ℕ) (n : ℕ) (chunks : List (List ℕ)) : Type 0 where
  pub joined_are : joined chunks ++ rest ≡ text
  pub few : length chunks ≡ needed (length (joined chunks))
  pub full : 0 < length rest → length (joined chunks) ≡ 64 * length chunks
  pub enough : length chunks ≤ n

pub so_far_none : (text : List ℕ) (n : ℕ) → SoFar text text n []
so_far_none text n = record { joined_are = refl; few = refl; full = λ _. refl; enough = omega arith }

-- Chunks put behind others.
behind : (chunks new : List (List ℕ)) (end : ℕ) → end ≡ length chunks → replaced end end new chunks ≡ chunks ++ new
behind chunks new end e =
    let front : take end chunks ≡ chunks = take_all end chunks (omega arith) in
    let rest : drop end chunks ≡ [] = drop_all end chunks (omega arith) in
    let nil : new ++ [] ≡ new = append-nil new in
    cc

-- The test by which the tree takes a piece at its end.
abbrev pub taken : List ℕ → List (List ℕ) → ℕ → ℕ → Bool
taken piece chunks end m = leb end end && (leb end (length chunks) && leb (length chunks - (end - end) + needed (length piece)) m)

-- One piece more.
module _ (text rest left piece : List ℕ) (n end m : ℕ) (chunks : List (List ℕ)) (so_far : SoFar text rest n chunks) (cut_off : rest ≡ piece ++ left)
    (long : length piece ≡ min 1024 (length rest)) (some : 0 < length rest) (at_end : end ≡ length chunks) (all : m ≡ n) where
  pub so_far_more : (after : List (List ℕ)) → after ≡ replaced end end (cut piece) chunks → true ≡ taken piece chunks end m → SoFar text left n after
  so_far_more after is fits =
      let both : after ≡ chunks ++ cut piece = is ∙ behind chunks (cut piece) end at_end in
      let count = ap length both ∙ length-append chunks (cut piece) in
      let bytes : joined after ≡ joined chunks ++ piece = ap joined both ∙ joined_append chunks (cut piece) ∙ ap (λ l. joined chunks ++ l) (cut_joined piece) in
      let size = ap length bytes ∙ length-append (joined chunks) piece in
      let full = so_far.full some in
      let split = ap length cut_off ∙ length-append piece left in
      record {
        joined_are = ap (λ l. l ++ left) bytes ∙ append_assoc (joined chunks) piece left ∙ ap (λ l. joined chunks ++ l) (sym cut_off) ∙ so_far.joined_are;
        few = omega (arith, cut_length piece);
        full = λ h. omega (arith, cut_length piece);
        enough = let room : length chunks - (end - end) + needed (length piece) ≤ m = grind (arith, nat_tests) in omega (arith, cut_length piece);
      }

-- All pieces are in.
module _ (text rest : List ℕ) (n : ℕ) (chunks : List (List ℕ)) (so_far : SoFar text rest n chunks) (all : length rest ≡ 0) where
  pub so_far_all : joined chunks ≡ text
  so_far_all = sym (append-nil (joined chunks)) ∙ ap (λ l. joined chunks ++ l) (sym (nil_from_length rest all)) ∙ so_far.joined_are

  pub so_far_few : length chunks ≡ needed (length text)
  so_far_few = so_far.few ∙ ap (λ l. needed (length l)) so_far_all
