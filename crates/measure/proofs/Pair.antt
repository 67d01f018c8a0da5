-- A pair of lawful meters is lawful, and reads a text as the two of them do.
use Rattle.std.proofs.Common.{◌≡◌, ℕ, List, [], ◌∷◌, sym, refl, ap, ◌∙◌}
use Rattle.measure.specs.Measure.{Measure, reading, Lawful}
use Rattle.measure.specs.Pair.{pair_measure}
use Rattle.measure.specs.declared.pair_reading.PairReading.{PairReading}
use Rattle.measure.proofs.Measure.{reading_append, lawful_whole}

abbrev pub pair : {A B : Type 0} → A → B → PairReading A B
pair a b = record { first = a; second = b }

pub same_pair : {A B : Type 0} (a a' : A) (b b' : B) → a ≡ a' → b ≡ b' → pair a b ≡ pair a' b'
same_pair a a' b b' e f = ap (λ x. pair x b) e ∙ ap (pair a') f

-- What the two meters say of a text.
abbrev both : {A B : Type 0} → Measure A → Measure B → List ℕ → PairReading A B
both μ ν text = pair (reading μ text) (reading ν text)

pub pair_reading : {A B : Type 0} (μ : Measure A) (ν : Measure B) (text : List ℕ) → reading (pair_measure μ ν) text ≡ both μ ν text
pair_reading μ ν [] = refl
pair_reading μ ν (b ∷ bs) = ap ((pair_measure μ ν).join ((pair_measure μ ν).single b)) (pair_reading μ ν bs)

pub pair_lawful : {A B : Type 0} (μ : Measure A) (ν : Measure B) → Lawful μ → Lawful ν → Lawful (pair_measure μ ν)
pair_lawful μ ν lawful lawful' =
    lawful_whole (pair_measure μ ν) (both μ ν) refl
    (λ b. same_pair _ _ _ _ (sym (lawful.single_alone b)) (sym (lawful'.single_alone b)))
    (λ xs ys. same_pair _ _ _ _ (sym (reading_append μ lawful xs ys)) (sym (reading_append ν lawful' xs ys)))
