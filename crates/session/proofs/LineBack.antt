-- A number that is written among blanks is read as it was, and with it the line of an edit.
use Rattle.std.proofs.Common.{◌≡◌, ℕ, ◌<◌, Bool, true, false, ◌&&◌, List, [], ◌∷◌, ◌++◌, length, Some, Ok, refl, ap, ◌∙◌, decimal, arith, rules}
use Rattle.std.specs.Option.{ok_or}
use Rattle.std.proofs.lemmas.Bool.{lt-ltb, ne_eqb}
use Rattle.std.proofs.lemmas.Bool.Decides.{nat_tests}
use Rattle.std.proofs.lemmas.Fmt.{decimal_nonempty, digits_decimal, digits_value-decimal}
use Rattle.std.proofs.lemmas.Str.Parse.{IsNumeralModel, numerals_by_fold}
use Rattle.notation.specs.Words.{is_blank, skipped, front_word, front_rest, word, behind}
use Rattle.notation.specs.Number.{is_digit, all_digits, value_from, number_of}
use Rattle.notation.specs.Bytes.{bytes_of}
use Rattle.session.specs.Asked.{Edit}
use Rattle.notation.specs.Quoted.{quoted}
use Rattle.session.specs.Request.{number_in, edit_in}
use Rattle.session.specs.Laws.{EditReadsBack}
use Rattle.session.specs.declared.problem.Problem.TheVariants.{Number}
use Rattle.notation.proofs.ReadBack.{quoted_reads_back}

own : IsNumeralModel (λ ds. all_digits ds ≡ true) (value_from 0)
own = numerals_by_fold _ (search rules) value_from (search rules)

-- A digit is no blank.
pub digit_apart : (b : ℕ) → is_digit b ≡ true → is_blank b ≡ false
digit_apart b digit = grind (arith, nat_tests)

pub and_first : (x y : Bool) → (x && y) ≡ true → x ≡ true
and_first true y h = refl
and_first false y h = h

pub and_second : (x y : Bool) → (x && y) ≡ true → y ≡ true
and_second true y h = h
and_second false y h = (cc)

module _ (n : ℕ) (small : n < 4294967296) where
  -- A number below 2^32, written in digits.
  pub decimal_digits : all_digits (decimal n) ≡ true
  decimal_digits = digits_decimal own n (omega arith)

  pub decimal_some : 0 < length (decimal n)
  decimal_some = decimal_nonempty n (omega arith)

  pub decimal_read : number_of (decimal n) ≡ Some n
  decimal_read =
      let all = decimal_digits in
      let value = digits_value-decimal own n (omega arith) in
      let is-some = ne_eqb (length (decimal n)) 0 (λ e. omega (arith, e, decimal_some)) in
      let below = lt-ltb n 4294967296 small in
      simp (all, value, is-some, below)

module _ (rest : List ℕ) where
  abbrev line : List ℕ → List ℕ
  line ds = ds ++ 0x20 ∷ rest

  digits_word : (ds : List ℕ) → all_digits ds ≡ true → front_word (line ds) ≡ ds
  digits_word [] all = refl
  digits_word (b ∷ bs) all =
      let apart = digit_apart b (and_first (is_digit b) (all_digits bs) all) in
      let so_on = digits_word bs (and_second (is_digit b) (all_digits bs) all) in
      simp (apart, so_on)

  digits_rest : (ds : List ℕ) → all_digits ds ≡ true → front_rest (line ds) ≡ 0x20 ∷ rest
  digits_rest [] all = refl
  digits_rest (b ∷ bs) all =
      let apart = digit_apart b (and_first (is_digit b) (all_digits bs) all) in
      let so_on = digits_rest bs (and_second (is_digit b) (all_digits bs) all) in
      simp (apart, so_on)

  digits_skipped : (ds : List ℕ) → 0 < length ds → all_digits ds ≡ true → skipped (0x20 ∷ line ds) ≡ line ds
  digits_skipped [] some all = absurd (omega (arith, some))
  digits_skipped (b ∷ bs) some all = let apart = digit_apart b (and_first (is_digit b) (all_digits bs) all) in simp apart

  module _ (n : ℕ) (small : n < 4294967296) where
    number_word : word (0x20 ∷ line (decimal n)) ≡ decimal n
    number_word = ap front_word (digits_skipped (decimal n) (decimal_some n small) (decimal_digits n small)) ∙ digits_word (decimal n) (decimal_digits n small)

    pub number_behind : behind (0x20 ∷ line (decimal n)) ≡ 0x20 ∷ rest
    number_behind = ap front_rest (digits_skipped (decimal n) (decimal_some n small) (decimal_digits n small)) ∙ digits_rest (decimal n) (decimal_digits n small)

    pub number_read : number_in (0x20 ∷ line (decimal n)) ≡ Ok n
    number_read = ap (λ w. ok_or (number_of w) Number) number_word ∙ ap (λ r. ok_or r Number) (decimal_read n small)

-- The line of an edit, word by word.
edit_is : (from to : ℕ) (bytes first second third : List ℕ) → number_in first ≡ Ok from → behind first ≡ second → number_in second ≡ Ok to → behind second ≡ third → bytes_of third ≡ Some bytes → edit_in first ≡ Ok (Edit from to bytes)
edit_is from to bytes first second third e₁ e₂ e₃ e₄ e₅ = simp (e₁, e₂, e₃, e₄, e₅)

pub edit_reads_back : EditReadsBack
edit_reads_back from to bytes from-small to-small small =
    let third = 0x20 ∷ quoted bytes in
    let second = 0x20 ∷ (decimal to ++ third) in
    let first = 0x20 ∷ (decimal from ++ second) in
    edit_is from to bytes first second third
    (number_read (decimal to ++ third) from from-small)
    (number_behind (decimal to ++ third) from from-small)
    (number_read (quoted bytes) to to-small)
    (number_behind (quoted bytes) to to-small)
    (quoted_reads_back bytes small)
