-- The meter of walks is lawful, its reading of a text is what `walk_reading` says, and each entry tells of the text.
use Rattle.std.proofs.Common.{◌≡◌, ℕ, ◌+◌, ◌-◌, ◌<◌, ◌≤◌, min, ltb, List, [], ◌∷◌, ◌++◌, length, map, take, drop, get_or, sym, refl, ap, ◌∙◌, subst, ⊎_elim, arith, Some}
use Rattle.std.proofs.lemmas.List.{length-append, length-map, length-take-le, length-drop, get_or-map, get_or-take, get_or-drop, get_or_append_left, get_or-append_right}
use Rattle.std.proofs.lemmas.Bool.{cases_lt, cond-true, cond-false, lt-ltb, le-ltb}
use Rattle.automaton.specs.Automaton.{Automaton, Lawful as LawfulGrammar}
use Rattle.automaton.specs.Bracket.{role}
use Rattle.automaton.specs.Walk.{walk}
use Rattle.automaton.proofs.Walk.{walk_append}
use Rattle.automaton.proofs.LawsHold.{walk_stays_below}
use Rattle.measure.specs.Measure.{reading, Lawful}
use Rattle.measure.specs.Bounded.{longest, capped}
use Rattle.measure.specs.Unmatched.{unmatched_closings, unmatched_openings}
use Rattle.measure.specs.Walk.{entry, passage, walk_reading, still, over_byte, join_entries, led_on, rows, entry_at, onward, through, join_passages, walk_measure, Tells, EntriesTell}
use Rattle.measure.specs.declared.walk_reading.Entry.{Entry}
use Rattle.measure.specs.declared.walk_reading.Passage.{Passage}
use Rattle.measure.proofs.Measure.{reading_whole, lawful_whole}
use Rattle.measure.proofs.Bounded.{bounded_within, bounded_over, join_said}
use Rattle.measure.proofs.Rows.{length_rows, get_d_rows, rows_all, same_rows}
use Rattle.measure.proofs.Unmatched.{one_role, unmatched_some, unmatched_few, unmatched_closings_append, unmatched_openings_append, unmatched_said, outside_walk, outside_openings, outside_closings}

abbrev pub entry_of : ℕ → ℕ → ℕ → Entry
entry_of u c o = record { end = u; closings = c; openings = o }

pub same_entry : {u u' c c' o o' : ℕ} → u ≡ u' → c ≡ c' → o ≡ o' → entry_of u c o ≡ entry_of u' c' o'
same_entry {u} {u'} {c} {c'} {o} {o'} e f g = ap (λ x. entry_of x c o) e ∙ ap (λ x. entry_of u' x o) f ∙ ap (entry_of u' c') g

abbrev pub passage_of : ℕ → List Entry → Passage
passage_of l entries = record { length = l; entries = entries }

pub same_passage : {l l' : ℕ} {e e' : List Entry} → l ≡ l' → e ≡ e' → passage_of l e ≡ passage_of l' e'
same_passage {l} {l'} {e} {e'} f g = ap (λ x. passage_of x e) f ∙ ap (passage_of l') g

-- What openings leave of closings is the same by the lesser of the two.
less : (b c : ℕ) → c - min b c ≡ c - b
less b c = omega arith

less' : (b c : ℕ) → b - min b c ≡ b - c
less' b c = omega arith

uncapped : (n : ℕ) → n ≤ longest → capped n ≡ n
uncapped n h = omega arith

module _ (a : Automaton) where
  -- Two walks join to the walk through both texts.
  pub join_walks : (s : ℕ) (xs ys : List ℕ) → length xs + length ys ≤ longest → join_entries (entry a s xs) (entry a (walk a s xs) ys) ≡ entry a s (xs ++ ys)
  join_walks s xs ys h =
      let t = walk a s xs in
      let b = unmatched_openings a s xs in
      let c = unmatched_closings a t ys in
      let long = length-append xs ys in
      let few = unmatched_few a s (xs ++ ys) in
      let closed = unmatched_closings_append a s xs ys in
      let opened = unmatched_openings_append a s xs ys in
      same_entry (sym (walk_append a s xs ys))
      (ap (λ n. capped (unmatched_closings a s xs + n)) (less b c) ∙ ap capped (sym closed) ∙ uncapped (unmatched_closings a s (xs ++ ys)) (omega arith))
      (ap (λ n. capped (unmatched_openings a t ys + n)) (less' b c) ∙ ap capped (sym opened) ∙ uncapped (unmatched_openings a s (xs ++ ys)) (omega arith))

  one_entry : (b s : ℕ) → over_byte a b s ≡ entry a s (b ∷ [])
  one_entry b s = same_entry refl (omega (arith, one_role (role a s b))) (omega (arith, one_role (role a s b)))

  pub one_byte : (b : ℕ) → (walk_measure a).single b ≡ walk_reading a (b ∷ [])
  one_byte b = ap (λ l. Some (record { length = 1; entries = l })) (same_rows (over_byte a b) (λ s. entry a s (b ∷ [])) (λ s h. one_entry b s))

  no_byte : (walk_measure a).empty ≡ walk_reading a []
  no_byte = refl

  module _ (lawful : LawfulGrammar a) where
    pub outside_entry : (s : ℕ) (xs : List ℕ) → a.count ≤ s → entry a s xs ≡ still s
    outside_entry s xs h =
        let o = outside_openings a lawful s xs h in
        let c = outside_closings a lawful s xs h in
        same_entry (outside_walk a lawful s xs h) (omega (arith, unmatched_some a s xs)) (omega (arith, unmatched_some a s xs))

    -- The state behind a walk that begins below 64 lies there too.
    ends_under : (s : ℕ) (xs : List ℕ) → s < 64 → walk a s xs < 64
    ends_under s xs h =
        ⊎_elim (λ k. omega (arith, walk_stays_below a lawful s xs k, lawful.few_states)) (λ k. let e = outside_walk a lawful s xs k in omega arith)
        (cases_lt s a.count)

    join_rows : (xs ys : List ℕ) → length xs + length ys ≤ longest → (s : ℕ) → s < 64 → through a.count (passage a xs).entries (passage a ys).entries s ≡ entry a s (xs ++ ys)
    join_rows xs ys h s k =
        let left = (passage a xs).entries in
        let right = (passage a ys).entries in
        let joined = onward left right s in
        let t = walk a s xs in
        let first : entry_at left s ≡ entry a s xs = get_d_rows (λ s. entry a s xs) s (still s) k in
        let second : entry_at right t ≡ entry a t ys = get_d_rows (λ s. entry a s ys) t (still t) (ends_under s xs k) in
        ⊎_elim (λ under.
        cond-true (ltb s a.count) joined (entry_at left s) (lt-ltb s a.count under)
        ∙ ap (λ e. join_entries e (entry_at right e.end)) first
        ∙ ap (join_entries (entry a s xs)) second
        ∙ join_walks s xs ys h)
        (λ out.
        cond-false (ltb s a.count) joined (entry_at left s) (le-ltb s a.count out)
        ∙ first
        ∙ outside_entry s xs out
        ∙ sym (outside_entry s (xs ++ ys) out))
        (cases_lt s a.count)

    -- Walks through xs that are led on through ys are walks through both; only those of the grammar move.
    pub rows_led_on : (n : ℕ) (xs ys : List ℕ) → n ≡ a.count → length xs + length ys ≤ longest →
        map (led_on a ys) (take n (rows (λ s. entry a s xs))) ++ drop n (rows (λ s. entry a s xs)) ≡ rows (λ s. entry a s (xs ++ ys))
    rows_led_on n xs ys is h =
        let walks = rows (λ s. entry a s xs) in
        let front = map (led_on a ys) (take n walks) in
        let whole = length_rows (λ s. entry a s xs) in
        let few = lawful.few_states in
        let long : length (take n walks) ≡ n = length-take-le n walks (omega arith) in
        let first : length front ≡ n = length-map (take n walks) (led_on a ys) ∙ long in
        let each : (s : ℕ) → s < 64 → get_or (front ++ drop n walks) s (still 0) ≡ entry a s (xs ++ ys) = λ s k.
        ⊎_elim (λ under.
        get_or_append_left front (drop n walks) (still 0) s (omega arith)
        ∙ get_or-map (led_on a ys) (take n walks) s (still 0) (still 0) (omega arith)
        ∙ ap (led_on a ys) (get_or-take n walks s (still 0) under ∙ get_d_rows (λ s. entry a s xs) s (still 0) k)
        ∙ join_walks s xs ys h)
        (λ out.
        get_or-append_right front (drop n walks) n s (still 0) first out
        ∙ get_or-drop n walks (s - n) (still 0)
        ∙ ap (λ i. get_or walks i (still 0)) (omega arith)
        ∙ get_d_rows (λ s. entry a s xs) s (still 0) k
        ∙ outside_entry s xs (omega arith)
        ∙ sym (outside_entry s (xs ++ ys) (omega arith)))
        (cases_lt s n) in
        rows_all (λ s. entry a s (xs ++ ys)) (front ++ drop n walks) (still 0) (length-append front (drop n walks) ∙ omega (arith, length-drop n walks)) each

    join_texts : (xs ys : List ℕ) → length xs + length ys ≤ longest → join_passages a.count (passage a xs) (passage a ys) ≡ passage a (xs ++ ys)
    join_texts xs ys h =
        same_passage (sym (length-append xs ys)) (same_rows (through a.count (passage a xs).entries (passage a ys).entries) (λ s. entry a s (xs ++ ys)) (join_rows xs ys h))

    join_readings : (xs ys : List ℕ) → (walk_measure a).join (walk_reading a xs) (walk_reading a ys) ≡ walk_reading a (xs ++ ys)
    join_readings = join_said (passage a) (λ p. p.length) (join_passages a.count) (λ xs. refl) join_texts

    pub walk_is : (text : List ℕ) → reading (walk_measure a) text ≡ walk_reading a text
    walk_is = reading_whole (walk_measure a) (walk_reading a) no_byte one_byte join_readings

    pub walk_lawful : Lawful (walk_measure a)
    walk_lawful = lawful_whole (walk_measure a) (walk_reading a) no_byte one_byte join_readings

    entry_tells : (text : List ℕ) (s : ℕ) → s < 64 → Tells a text s (entry a s text)
    entry_tells text s h = record {
      ends = refl;
      unmatched = unmatched_said a s text;
      ends_below = ends_under s text h;
      few_brackets = unmatched_few a s text;
      outside = outside_entry s text;
    }

    pub entries_tell : EntriesTell a
    entries_tell text p e =
        let told = walk_is text in
        ⊎_elim (λ h. let over = bounded_over (passage a) text h in let z : ◌≡◌ {A = ℕ} 0 1 = cc in absurd (omega arith))
        (λ h. let within = bounded_within (passage a) text h in
        let same : passage a text ≡ p = cc in
        let Said : Passage → Type 0 = λ q. (q.length ≡ length text) × (length q.entries ≡ 64) × ((s : ℕ) → s < 64 → Tells a text s (entry_at q.entries s)) in
        subst Said same (refl, length_rows (λ s. entry a s text), λ s k. subst (Tells a text s) (sym (get_d_rows (λ s. entry a s text) s (still s) k)) (entry_tells text s k)))
        (cases_lt longest (length text))
