-- A part of a list that is moved in two pieces is moved whole: towards the front the first piece goes first, towards the end the last one.
use Rattle.std.proofs.Common.{◌≡◌, ℕ, ◌+◌, ◌-◌, ◌≤◌, List, ◌++◌, length, take, drop, sym, ap, ◌∙◌, arith}
use lib.Seq.{paste, take-add}
use Rattle.std.specs.List.{copy_within}
use Rattle.std.proofs.lemmas.List.{length-drop, length-take-le, append_assoc, drop-drop, drop-take, drop_at, take_at, take-take}
use Rattle.std.proofs.lemmas.List.Edits.{take-paste, drop-paste}

-- In both, n cells are moved before k more.
module _ (xs : List ℕ) (i d n k : ℕ) where
  pasted_back : d ≤ i → i + (n + k) ≤ length xs → let ys = paste xs d (drop i xs) n in paste ys (d + n) (drop (i + n) ys) k ≡ paste xs d (drop i xs) (n + k)
  pasted_back back room =
      let s = drop i xs in
      let ys = paste xs d s n in
      let long : n ≤ length s = omega (arith, length-drop i xs) in
      let front : take (d + n) ys ≡ take d xs ++ take n s = take-paste xs d s n (omega arith) long in
      let behind : drop (d + n) ys ≡ drop (d + n) xs = drop-paste xs d s n (omega arith) long in
      let further : (r : ℕ) → drop (d + n + r) ys ≡ drop (d + n + r) xs = λ r. sym (drop-drop r (d + n) ys) ∙ ap (drop r) behind ∙ drop-drop r (d + n) xs in
      let same : i + n ≡ d + n + (i - d) = omega arith in
      let source : drop (i + n) ys ≡ drop n s = ap (λ q. drop q ys) same ∙ further (i - d) ∙ ap (λ q. drop q xs) (sym same) ∙ sym (drop-drop n i xs) in
      ap (λ l. (l ++ take k (drop (i + n) ys)) ++ drop (d + n + k) ys) front
      ∙ ap (λ l. ((take d xs ++ take n s) ++ take k l) ++ drop (d + n + k) ys) source
      ∙ ap (λ l. ((take d xs ++ take n s) ++ take k (drop n s)) ++ l) (further k)
      ∙ ap (λ l. l ++ drop (d + n + k) xs) (append_assoc (take d xs) (take n s) (take k (drop n s)))
      ∙ ap (λ l. (take d xs ++ l) ++ drop (d + n + k) xs) (sym (take-add n k s))
      ∙ ap (λ q. (take d xs ++ take (n + k) s) ++ drop q xs) (omega arith)

  pasted_on : i ≤ d → d + (k + n) ≤ length xs → let ys = paste xs (d + k) (drop (i + k) xs) n in paste ys d (drop i ys) k ≡ paste xs d (drop i xs) (k + n)
  pasted_on onward room =
      let s = drop i xs in
      let rest = take n (drop (i + k) xs) ++ drop (d + k + n) xs in
      let ys = paste xs (d + k) (drop (i + k) xs) n in
      let long = length-take-le (d + k) xs (omega arith) in
      let whole : ys ≡ take (d + k) xs ++ rest = append_assoc (take (d + k) xs) (take n (drop (i + k) xs)) (drop (d + k + n) xs) in
      let front : take (d + k) ys ≡ take (d + k) xs = ap (take (d + k)) whole ∙ take_at (take (d + k) xs) rest (d + k) long in
      let nearer : (q : ℕ) → q ≤ d + k → take q ys ≡ take q xs = λ q h. sym (take-take q (d + k) ys h) ∙ ap (take q) front ∙ take-take q (d + k) xs h in
      let source : take k (drop i ys) ≡ take k s = sym (drop-take i k ys) ∙ ap (drop i) (nearer (i + k) (omega arith)) ∙ drop-take i k xs in
      let behind : drop (d + k) ys ≡ rest = ap (drop (d + k)) whole ∙ drop_at (take (d + k) xs) rest (d + k) long in
      ap (λ l. (l ++ take k (drop i ys)) ++ drop (d + k) ys) (nearer d (omega arith))
      ∙ ap (λ l. (take d xs ++ l) ++ drop (d + k) ys) source
      ∙ ap (λ l. (take d xs ++ take k s) ++ l) behind
      ∙ sym (append_assoc (take d xs ++ take k s) (take n (drop (i + k) xs)) (drop (d + k + n) xs))
      ∙ ap (λ l. ((take d xs ++ take k s) ++ take n l) ++ drop (d + k + n) xs) (sym (drop-drop k i xs))
      ∙ ap (λ l. l ++ drop (d + k + n) xs) (append_assoc (take d xs) (take k s) (take n (drop k s)))
      ∙ ap (λ l. (take d xs ++ l) ++ drop (d + k + n) xs) (sym (take-add k n s))
      ∙ ap (λ q. (take d xs ++ take (k + n) s) ++ drop q xs) (omega arith)

module _ (xs : List ℕ) (i m j d : ℕ) (first : i ≤ m) (last : m ≤ j) where
  pub moved_back : d ≤ i → j ≤ length xs → copy_within (copy_within xs i m d) m j (d + (m - i)) ≡ copy_within xs i j d
  moved_back back room =
      let n = m - i in
      let k = j - m in
      let ys = paste xs d (drop i xs) n in
      let middle : m ≡ i + n = omega arith in
      ap (λ q. paste ys (d + n) (drop q ys) k) middle ∙ pasted_back xs i d n k back (omega arith) ∙ ap (paste xs d (drop i xs)) (omega arith)

  pub moved_on : i ≤ d → d + (j - i) ≤ length xs → copy_within (copy_within xs m j (d + (m - i))) i m d ≡ copy_within xs i j d
  moved_on onward room =
      let n = j - m in
      let k = m - i in
      let middle : m ≡ i + k = omega arith in
      ap (λ q. let ys = paste xs (d + k) (drop q xs) n in paste ys d (drop i ys) k) middle ∙ pasted_on xs i d n k onward (omega arith) ∙ ap (paste xs d (drop i xs)) (omega arith)
