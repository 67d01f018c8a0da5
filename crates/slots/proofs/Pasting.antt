-- Bytes copied one part behind another.
use Rattle.std.proofs.Common.{◌≡◌, ℕ, ◌+◌, ◌≤◌, List, ◌++◌, length, take, drop, sym, ap, ◌∙◌, append_assoc, arith}
use Rattle.std.proofs.lemmas.List.{length-append, length-take-le, length-drop, take_at, drop-drop}
use Rattle.slots.specs.Copy.{pasted, Copied}
use Rattle.std.proofs.Math.Seq.{drop-append-add}

module _ (out xs : List ℕ) (at : ℕ) (room : at + length xs ≤ length out) where
  front : length (take at out ++ xs) ≡ at + length xs
  front = let e = length-take-le at out (omega arith) in omega (arith, length-append (take at out) xs)

  pub pasted_length : length (pasted out at xs) ≡ length out
  pasted_length =
      let e = length-take-le at out (omega arith) in
      omega (arith, length-append (take at out) (xs ++ drop (at + length xs) out), length-append xs (drop (at + length xs) out), length-drop (at + length xs) out)

  flat : pasted out at xs ≡ (take at out ++ xs) ++ drop (at + length xs) out
  flat = sym (append_assoc (take at out) xs (drop (at + length xs) out))

  pub pasted_twice : (ys : List ℕ) → pasted (pasted out at xs) (at + length xs) ys ≡ pasted out at (xs ++ ys)
  pasted_twice ys =
      let n = at + length xs in
      let head : take n (pasted out at xs) ≡ take at out ++ xs = ap (take n) flat ∙ take_at (take at out ++ xs) (drop n out) n front in
      let tail : drop (n + length ys) (pasted out at xs) ≡ drop (n + length ys) out =
      ap (drop (n + length ys)) flat
      ∙ ap (λ k. drop (k + length ys) ((take at out ++ xs) ++ drop n out)) (sym front)
      ∙ drop-append-add (take at out ++ xs) (drop n out) (length ys)
      ∙ drop-drop (length ys) n out
      in
      let long : n + length ys ≡ at + length (xs ++ ys) = omega (arith, length-append xs ys) in
      ap (λ l. l ++ (ys ++ drop (n + length ys) (pasted out at xs))) head
      ∙ ap (λ l. (take at out ++ xs) ++ (ys ++ l)) tail
      ∙ ap (λ k. (take at out ++ xs) ++ (ys ++ drop k out)) long
      ∙ append_assoc (take at out) xs (ys ++ drop (at + length (xs ++ ys)) out)
      ∙ ap (λ l. take at out ++ l) (sym (append_assoc xs ys (drop (at + length (xs ++ ys)) out)))

pub copied_two : (out xs ys : List ℕ) (at : ℕ) (mid after : List ℕ) (m e : ℕ) → at + length (xs ++ ys) ≤ length out → Copied xs out at mid m → Copied ys mid m after e → Copied (xs ++ ys) out at after e
copied_two out xs ys at mid after m e room p q =
    let long = length-append xs ys in
    let m-is = p.end_is in
    let e-is = q.end_is in
    record {
      end_is = omega arith;
      after_is = q.after_is ∙ ap (λ (l : List ℕ). pasted l m ys) p.after_is ∙ ap (λ n. pasted (pasted out at xs) n ys) m-is ∙ pasted_twice out xs at (omega arith) ys;
    }

pub copied_length : (out xs : List ℕ) (at : ℕ) (after : List ℕ) (e : ℕ) → at + length xs ≤ length out → Copied xs out at after e → length after ≡ length out
copied_length out xs at after e room p = ap length p.after_is ∙ pasted_length out xs at room

pub copied_three : (out xs ys zs : List ℕ) (at : ℕ) (mid next after : List ℕ) (m n e : ℕ) → at + length xs + length ys + length zs ≤ length out →
    Copied xs out at mid m → Copied ys mid m next n → Copied zs next n after e → Copied (xs ++ (ys ++ zs)) out at after e
copied_three out xs ys zs at mid next after m n e room p q s =
    let rest = length-append ys zs in
    let all = length-append xs (ys ++ zs) in
    let m-is = p.end_is in
    let same = copied_length out xs at mid m (omega arith) p in
    copied_two out xs (ys ++ zs) at mid after m e (omega arith) p (copied_two mid ys zs m next after n e (omega arith) q s)
