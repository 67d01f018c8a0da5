-- The line of a script is read as it was written: its text, and behind it each record as a word of its own.
use Rattle.std.proofs.Common.{◌≡◌, ℕ, ◌<◌, true, false, List, [], ◌∷◌, ◌++◌, length, Some, Ok, ◌==◌, refl, ap, ◌∙◌, decimal, arith}
use Rattle.std.specs.List.{flat_map, AllByRecursion}
use Rattle.std.proofs.lemmas.List.Elements.{recursion_from_All}
use Rattle.std.proofs.lemmas.Bool.Decides.{nat_tests}
use Rattle.model.specs.declared.replacement.Replacement.{Replacement}
use Rattle.notation.specs.Words.{is_blank, begun, words}
use Rattle.notation.specs.Number.{is_digit, all_digits}
use Rattle.notation.specs.Bytes.{bytes_then, bytes_from}
use Rattle.session.specs.Records.{comma_front, comma_rest, number_then, record_of, in_front, records_of_words, records_of}
use Rattle.session.specs.Asked.{Script}
use Rattle.notation.specs.Quoted.{quoted}
use Rattle.session.specs.Request.{script_in}
use Rattle.session.specs.Laws.{record_word, Numbers, ScriptReadsBack}
use Rattle.notation.specs.declared.spot.Spot.TheVariants.{Behind}
use Rattle.session.proofs.LineBack.{digit_apart, and_first, and_second, decimal_digits, decimal_some, decimal_read}
use Rattle.notation.proofs.ReadBack.{quoted_read}

-- A digit is no comma.
no_comma : (b : ℕ) → is_digit b ≡ true → (b == 0x2C) ≡ false
no_comma b digit = grind (arith, nat_tests)

module _ (rest : List ℕ) where
  abbrev part : List ℕ → List ℕ
  part ds = ds ++ 0x2C ∷ rest

  digits_front : (ds : List ℕ) → all_digits ds ≡ true → comma_front (part ds) ≡ ds
  digits_front [] all = refl
  digits_front (b ∷ bs) all =
      let apart = no_comma b (and_first (is_digit b) (all_digits bs) all) in
      let so_on = digits_front bs (and_second (is_digit b) (all_digits bs) all) in
      simp (apart, so_on)

  digits_rest : (ds : List ℕ) → all_digits ds ≡ true → comma_rest (part ds) ≡ Some rest
  digits_rest [] all = refl
  digits_rest (b ∷ bs) all =
      let apart = no_comma b (and_first (is_digit b) (all_digits bs) all) in
      let so_on = digits_rest bs (and_second (is_digit b) (all_digits bs) all) in
      simp (apart, so_on)

  number_front : (n : ℕ) → n < 4294967296 → number_then (part (decimal n)) ≡ Some (n, rest)
  number_front n small =
      let front = digits_front (decimal n) (decimal_digits n small) in
      let behind = digits_rest (decimal n) (decimal_digits n small) in
      let read = decimal_read n small in
      simp (front, behind, read)

record_read : (r : Replacement) → Numbers r → record_of (record_word r) ≡ Some r
record_read r small =
    let end = decimal r.end in
    let start = decimal r.start ++ 0x2C ∷ end in
    let to = decimal r.to ++ 0x2C ∷ start in
    let e₁ = number_front to r.from small.from_small in
    let e₂ = number_front start r.to small.to_small in
    let e₃ = number_front end r.start small.start_small in
    let e₄ = decimal_read r.end small.end_small in
    simp (e₁, e₂, e₃, e₄)

-- A record's word has no blank.
abbrev NoBlank : List ℕ → Type 0
NoBlank [] = Unit {0}
NoBlank (b ∷ bs) = (is_blank b ≡ false) × NoBlank bs

digits_apart : (ds more : List ℕ) → all_digits ds ≡ true → NoBlank more → NoBlank (ds ++ more)
digits_apart [] more all apart = apart
digits_apart (b ∷ bs) more all apart =
    (digit_apart b (and_first (is_digit b) (all_digits bs) all), digits_apart bs more (and_second (is_digit b) (all_digits bs) all) apart)

digits_alone : (ds : List ℕ) → all_digits ds ≡ true → NoBlank ds
digits_alone [] all = tt
digits_alone (b ∷ bs) all =
    (digit_apart b (and_first (is_digit b) (all_digits bs) all), digits_alone bs (and_second (is_digit b) (all_digits bs) all))

word_apart : (r : Replacement) → Numbers r → NoBlank (record_word r)
word_apart r small =
    digits_apart (decimal r.from) _ (decimal_digits r.from small.from_small) (
      refl,
      digits_apart (decimal r.to) _ (decimal_digits r.to small.to_small) (
        refl,
        digits_apart (decimal r.start) _ (decimal_digits r.start small.start_small) (
          refl,
          digits_alone (decimal r.end) (decimal_digits r.end small.end_small),
        ),
      ),
    )

-- A word in front of a line that is empty or begins with a blank is the first of its words.
module _ (rest : List ℕ) (stops : (b : ℕ) (ws : List (List ℕ)) → begun b rest ws ≡ (b ∷ []) ∷ ws) where
  put_on : (b : ℕ) (w : List ℕ) → NoBlank w → begun b (w ++ rest) (words (w ++ rest)) ≡ (b ∷ w) ∷ words rest
  put_on b [] apart = stops b (words rest)
  put_on b (c ∷ cs) apart =
      let first = apart.0 in
      let so_on = put_on c cs apart.1 in
      simp (first, so_on)

  word_put : (w : List ℕ) → 0 < length w → NoBlank w → words (w ++ rest) ≡ w ∷ words rest
  word_put [] some apart = absurd (omega (arith, some))
  word_put (b ∷ bs) some apart = rw apart.0 (put_on b bs apart.1)

append_some : (ds more : List ℕ) → 0 < length ds → 0 < length (ds ++ more)
append_some [] more some = absurd (omega (arith, some))
append_some (b ∷ bs) more some = omega arith

record_some : (r : Replacement) → Numbers r → 0 < length (record_word r)
record_some r small = append_some (decimal r.from) _ (decimal_some r.from small.from_small)

-- The records behind a script's text.
abbrev written_records : List Replacement → List ℕ
written_records records = flat_map (λ r. 0x20 ∷ record_word r) records

written_stop : (records : List Replacement) (b : ℕ) (ws : List (List ℕ)) → begun b (written_records records) ws ≡ (b ∷ []) ∷ ws
written_stop [] b ws = refl
written_stop (r ∷ rs) b ws = refl

written_behind : (records : List Replacement) → bytes_from Behind (written_records records) ≡ Some ([], written_records records)
written_behind [] = refl
written_behind (r ∷ rs) = refl

records_read : (records : List Replacement) → AllByRecursion Numbers records → records_of (written_records records) ≡ Some records
records_read [] small = refl
records_read (r ∷ rs) small =
    let rest = written_records rs in
    ap records_of_words (word_put rest (written_stop rs) (record_word r) (record_some r small.0) (word_apart r small.0))
    ∙ ap (λ o. in_front o (records_of rest)) (record_read r small.0)
    ∙ ap (in_front (Some r)) (records_read rs small.1)

script_is : (line text rest : List ℕ) (records : List Replacement) → bytes_then line ≡ Some (text, rest) → records_of rest ≡ Some records → script_in line ≡ Ok (Script text records)
script_is line text rest records e₁ e₂ = simp (e₁, e₂)

pub script_reads_back : ScriptReadsBack
script_reads_back text records small numbers =
    script_is (0x20 ∷ (quoted text ++ written_records records)) text (written_records records) records
    (quoted_read (written_records records) (written_behind records) text small)
    (records_read records (recursion_from_All Numbers records numbers))
