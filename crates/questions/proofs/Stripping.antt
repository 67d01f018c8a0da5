-- Bytes taken off the front of a list one part behind another.
use Rattle.std.proofs.Common.{ℕ, List, ◌++◌, Some, None, Option, sym, ap, ◌∙◌, append_assoc}
use Rattle.std.proofs.lemmas.List.{append_cancel_left}
use Rattle.std.specs.Borrow.{Bor}
use Rattle.questions.specs.Stripped.{Stripped}

module _ (xs ys given : List ℕ) where
  -- Where the first part is not there, the whole is not.
  pub first_missing : Stripped xs given None → Stripped (xs ++ ys) given None
  first_missing none = λ rest is. none (ys ++ rest) (is ∙ append_assoc xs ys rest)

  -- Where it is, the answer for what follows is that for the whole.
  pub first_stripped : (mid : Bor (List ℕ)) → Stripped xs given (Some mid) → (r : Option (Bor (List ℕ))) → Stripped ys mid.now r → Stripped (xs ++ ys) given r
  first_stripped mid first None none = λ rest is. none rest (append_cancel_left xs mid.now (ys ++ rest) (sym first ∙ is ∙ append_assoc xs ys rest))
  first_stripped mid first (Some rest) is = first ∙ ap (λ l. xs ++ l) is ∙ sym (append_assoc xs ys rest.now)
