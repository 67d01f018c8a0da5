-- A line with a word left is that word, and the words of what is behind it; so with the records that they are.
use Rattle.std.proofs.Common.{◌≡◌, ℕ, ◌<◌, ◌≤◌, cond, Bool, true, false, List, [], ◌∷◌, length, Some, ◌==◌, refl, ap, ◌∙◌, arith}
use Rattle.std.proofs.lemmas.Bool.{ne_eqb}
use Rattle.session.specs.Records.{record_of, in_front, records_of_words, records_of}
use Rattle.notation.specs.Words.{is_blank, front_word, front_rest, word, behind, is_over, begun, words}

-- A byte that is no blank begins a word.
abbrev Begins : ℕ → List ℕ → Type 0
Begins b bs = begun b bs (words bs) ≡ (b ∷ front_word bs) ∷ words (front_rest bs)

begins_next : (b c : ℕ) (cs : List ℕ) (blank : Bool) → is_blank c ≡ blank → Begins c cs → Begins b (c ∷ cs)
begins_next b c cs true e so_on = simp e
begins_next b c cs false e so_on = simp (e, so_on)

word_begins : (b : ℕ) (bs : List ℕ) → Begins b bs
word_begins b [] = refl
word_begins b (c ∷ cs) = begins_next b c cs (is_blank c) refl (word_begins c cs)

not_over : (b : ℕ) (bs : List ℕ) → (length (b ∷ bs) == 0) ≡ false
not_over b bs = ne_eqb (length (b ∷ bs)) 0 (λ none. omega (arith, none))

abbrev Splits : List ℕ → Type 0
Splits line = words line ≡ cond (is_over line) [] (word line ∷ words (behind line))

splits_front : (b : ℕ) (bs : List ℕ) (blank : Bool) → is_blank b ≡ blank → Splits bs → Splits (b ∷ bs)
splits_front b bs true e so_on = simp (e, so_on)
splits_front b bs false e so_on = let begins = word_begins b bs in let some = not_over b (front_word bs) in simp (e, begins, some)

words_split : (line : List ℕ) → words line ≡ cond (is_over line) [] (word line ∷ words (behind line))
words_split [] = refl
words_split (b ∷ bs) = splits_front b bs (is_blank b) refl (words_split bs)

rest_front : (b : ℕ) (bs : List ℕ) (blank : Bool) → length (front_rest bs) ≤ length bs → length (cond blank (b ∷ bs) (front_rest bs)) ≤ length (b ∷ bs)
rest_front b bs true so_on = omega arith
rest_front b bs false so_on = omega (arith, so_on)

rest_shorter : (line : List ℕ) → length (front_rest line) ≤ length line
rest_shorter [] = omega arith
rest_shorter (b ∷ bs) = rest_front b bs (is_blank b) (rest_shorter bs)

abbrev Shortens : List ℕ → Type 0
Shortens line = is_over line ≡ false → length (behind line) < length line

shortens_front : (b : ℕ) (bs : List ℕ) (blank : Bool) → is_blank b ≡ blank → Shortens bs → Shortens (b ∷ bs)
shortens_front b bs true e so_on = rw e (λ left. omega (arith, so_on left))
shortens_front b bs false e so_on = let shorter = rest_shorter bs in rw (e, e) (λ left. omega (arith, shorter))

-- What is behind a word is shorter than the line.
pub behind_shorter : (line : List ℕ) → is_over line ≡ false → length (behind line) < length line
behind_shorter [] left = (cc)
behind_shorter (b ∷ bs) left = shortens_front b bs (is_blank b) refl (behind_shorter bs) left

words_more : (line : List ℕ) → is_over line ≡ false → words line ≡ word line ∷ words (behind line)
words_more line left = words_split line ∙ ap (λ t. cond t [] (word line ∷ words (behind line))) left

words_none : (line : List ℕ) → is_over line ≡ true → words line ≡ []
words_none line over = words_split line ∙ ap (λ t. cond t [] (word line ∷ words (behind line))) over

-- The records of a line in which a word is left, and of one in which none is.
pub records_more : (line : List ℕ) → is_over line ≡ false → records_of line ≡ in_front (record_of (word line)) (records_of (behind line))
records_more line left = ap records_of_words (words_more line left)

pub records_none : (line : List ℕ) → is_over line ≡ true → records_of line ≡ Some []
records_none line over = ap records_of_words (words_none line over)
