-- A search from behind over parts of a text, and the parts that a subtree's text has before a place.
use Rattle.std.proofs.Common.{◌≡◌, ℕ, ◌+◌, ◌-◌, ◌≤◌, true, false, List, [], ◌∷◌, ◌++◌, length, take, Option, refl, sym, ap, ◌∙◌, subst, ⊎_elim, arith}
use Rattle.std.proofs.lemmas.List.{take_all, length-append}
use Rattle.std.proofs.lemmas.Bool.{cases_lt}
use Rattle.measure.specs.Measure.{Measure, reading}
use Rattle.search.specs.declared.stop.Stop.{Stop}
use Rattle.search.specs.Forwards.{shifted}
use Rattle.search.specs.Backwards.{forwards, back_stop}
use Rattle.search.proofs.Backwards.{stops_behind, goes_before, state_behind}
use Rattle.slots.proofs.Ranges.{take_over}
use Rattle.questions.specs.declared.subtree.Subtree.{Subtree}
use Rattle.questions.specs.declared.subtree.Parts.{Parts}
use Rattle.questions.specs.Parted.{Apart}
use Rattle.questions.specs.Under.{text_under, KeptUnder}
use Rattle.seek.proofs.Found.{Found}
use Rattle.seek.proofs.Parting.{parts_cut}

-- The forward state behind two texts is that behind the second, from the state behind the first.
pub forwards_append : {F : Type 0} (fore : F → ℕ → F) (f : F) (xs ys : List ℕ) → forwards fore f (xs ++ ys) ≡ forwards fore (forwards fore f xs) ys
forwards_append fore f [] ys = refl
forwards_append fore f (x ∷ xs) ys = forwards_append fore (fore f x) xs ys

module _ {F A : Type 0} (fore : F → ℕ → F) (back : F → ℕ → A → Option A) where
  -- The forward states before the parts, from those behind the whole of what lies before them.
  pub state_own : (f : F) (place inside : ℕ) (xs cs : List ℕ) (a : A) → inside ≡ place - length xs → back_stop fore back (forwards fore f xs) (take inside cs) a ≡ back_stop fore back (forwards fore f (take place xs)) (take inside cs) a
  state_own f place inside xs cs a is =
      ap (λ k. back_stop fore back (forwards fore f xs) (take k cs) a) is
      ∙ state_behind fore back f place xs cs a
      ∙ ap (λ k. back_stop fore back (forwards fore f (take place xs)) (take k cs) a) (sym is)

  pub state_right : (f : F) (place inside beyond : ℕ) (xs cs ys : List ℕ) (a : A) → inside ≡ place - length xs → beyond ≡ inside - length cs →
      back_stop fore back (forwards fore (forwards fore f xs) cs) (take beyond ys) a ≡ back_stop fore back (forwards fore (forwards fore f (take place xs)) (take inside cs)) (take beyond ys) a
  state_right f place inside beyond xs cs ys a inside-is beyond-is =
      ⊎_elim
      (λ h.
      let left = take_all place xs (omega arith) in
      let own = take_all inside cs (omega arith) in
      ap (λ l. back_stop fore back (forwards fore (forwards fore f l) cs) (take beyond ys) a) (sym left) ∙ ap (λ l. back_stop fore back (forwards fore (forwards fore f (take place xs)) l) (take beyond ys) a) (sym own))
      (λ h.
      let none : beyond ≡ 0 = omega arith in
      ap (λ k. back_stop fore back (forwards fore (forwards fore f xs) cs) (take k ys) a) none ∙ sym (ap (λ k. back_stop fore back (forwards fore (forwards fore f (take place xs)) (take inside cs)) (take k ys) a) none))
      (cases_lt 0 beyond)

  module _ (K : Type 0) where
    abbrev pub Behind : F → List ℕ → A → Stop A → Type 0
    Behind f text a s = Found K text (back_stop fore back f text a) s

    -- It stops in the last part.
    pub stops_last : (f : F) (xs ys : List ℕ) (a : A) (s : Stop A) → Behind (forwards fore f xs) ys a s → s.stopped ≡ true → Behind f (xs ++ ys) a s
    stops_last f xs ys a s found stopped = record {
      within = omega (arith, length-append xs ys, found.within);
      finds = λ k. stops_behind fore back f xs ys a s (found.finds k) stopped;
    }

    -- It runs through the last part, and goes on in the one before.
    pub goes_back : (f : F) (xs ys : List ℕ) (a : A) (s : Stop A) → Behind (forwards fore f xs) ys a s → s.stopped ≡ false → (first : Stop A) → Behind f xs s.at first → (all : Stop A) → all ≡ shifted s.passed first → Behind f (xs ++ ys) a all
    goes_back f xs ys a s found running first before all is = record {
      within = omega (arith, ap (λ z. z.passed) is, length-append xs ys, found.within, before.within);
      finds = λ k. is ∙ ap (shifted s.passed) (before.finds k) ∙ goes_before fore back f xs ys a s (found.finds k) running;
    }

-- A search in a subtree, part by part, from a place back; `inner` is the forward state before the own chunk.
module _ {R F A : Type 0} (fore : F → ℕ → F) (back : F → ℕ → A → Option A) (μ : Measure R) (f : F) (a : A) {s : Subtree R} {p : Parts R} (apart : Apart s p) (place inside beyond : ℕ) (inside-is : inside ≡ place - length (text_under p.left)) (beyond-is : beyond ≡ inside - length p.chunk.now)
    (inner : F) (inner-is : KeptUnder p.left μ → inner ≡ forwards fore f (text_under p.left)) (rest : Stop A) (right : Behind fore back (KeptUnder s μ) (forwards fore inner p.chunk.now) (take beyond (text_under p.right)) a rest) where
  abbrev xs : List ℕ
  xs = take place (text_under p.left)

  abbrev cs : List ℕ
  cs = take inside p.chunk.now

  abbrev ys : List ℕ
  ys = take beyond (text_under p.right)

  whole : {z : Stop A} → Behind fore back (KeptUnder s μ) f (xs ++ (cs ++ ys)) a z → Behind fore back (KeptUnder s μ) f (take place (text_under s)) a z
  whole {z} = subst (λ l. Behind fore back (KeptUnder s μ) f l a z) (sym (parts_cut take take_over apart place inside beyond inside-is beyond-is))

  before_own : KeptUnder s μ → inner ≡ forwards fore f (text_under p.left)
  before_own k = inner-is (apart.left_keeps μ k)

  on_right : Behind fore back (KeptUnder s μ) (forwards fore (forwards fore f xs) cs) ys a rest
  on_right = record {
    within = right.within;
    finds = λ k.
        right.finds k
        ∙ ap (λ z. back_stop fore back (forwards fore z p.chunk.now) ys a) (before_own k)
        ∙ state_right fore back f place inside beyond (text_under p.left) p.chunk.now (text_under p.right) a inside-is beyond-is;
  }

  pub stopped_right : rest.stopped ≡ true → Behind fore back (KeptUnder s μ) f (take place (text_under s)) a rest
  stopped_right stopped = whole (stops_last fore back (KeptUnder s μ) f xs (cs ++ ys) a rest (stops_last fore back (KeptUnder s μ) (forwards fore f xs) cs ys a rest on_right stopped) stopped)

  module _ (running : rest.stopped ≡ false) (own : Stop A) (here : Behind fore back (p.reading.now ≡ reading μ p.chunk.now) inner cs rest.at own) where
    -- All that is passed lies in the text.
    pub own_fits : rest.passed + own.passed ≤ length (take place (text_under s))
    own_fits = omega (arith, right.within, here.within, ap length (parts_cut take take_over apart place inside beyond inside-is beyond-is), length-append xs (cs ++ ys), length-append cs ys)

    module _ (both : Stop A) (both-is : both ≡ shifted rest.passed own) where
      so_far : Behind fore back (KeptUnder s μ) (forwards fore f xs) (cs ++ ys) a both
      so_far = goes_back fore back (KeptUnder s μ) (forwards fore f xs) cs ys a rest on_right running own
          (record {
            within = here.within;
            finds = λ k.
                here.finds (apart.own_kept μ k)
                ∙ ap (λ z. back_stop fore back z cs rest.at) (before_own k)
                ∙ state_own fore back f place inside (text_under p.left) p.chunk.now rest.at inside-is;
          })
          both both-is

      pub stopped_own : both.stopped ≡ true → Behind fore back (KeptUnder s μ) f (take place (text_under s)) a both
      stopped_own stopped = whole (stops_last fore back (KeptUnder s μ) f xs (cs ++ ys) a both so_far stopped)

      pub found_all : both.stopped ≡ false → (first : Stop A) → Behind fore back (KeptUnder p.left μ) f xs both.at first → (all : Stop A) → all ≡ shifted both.passed first → Behind fore back (KeptUnder s μ) f (take place (text_under s)) a all
      found_all goes first left all is = whole (goes_back fore back (KeptUnder s μ) f xs (cs ++ ys) a both so_far goes first (record { within = left.within; finds = λ k. left.finds (apart.left_keeps μ k) }) all is)

-- What it came to on the right, where it begins with the state behind the own chunk, or not at all.
module _ {R F A : Type 0} (fore : F → ℕ → F) (back : F → ℕ → A → Option A) (μ : Measure R) (a : A) {s : Subtree R} {p : Parts R} (apart : Apart s p) (inner : F) (beyond : ℕ) where
  abbrev pub Right : Stop A → Type 0
  Right rest = Behind fore back (KeptUnder s μ) (forwards fore inner p.chunk.now) (take beyond (text_under p.right)) a rest

  pub right_sought : (outer : F) → (p.reading.now ≡ reading μ p.chunk.now → outer ≡ forwards fore inner p.chunk.now) → (sought : Stop A) → Behind fore back (KeptUnder p.right μ) outer (take beyond (text_under p.right)) a sought → (rest : Stop A) → rest ≡ sought → Right rest
  right_sought outer outer-is sought found rest is = record {
    within = omega (arith, ap (λ z. z.passed) is, found.within);
    finds = λ k. is ∙ found.finds (apart.right_keeps μ k) ∙ ap (λ z. back_stop fore back z (take beyond (text_under p.right)) a) (outer-is (apart.own_kept μ k));
  }

  pub right_none : beyond ≡ 0 → (rest : Stop A) → rest ≡ record { passed = 0; at = a; stopped = false } → Right rest
  right_none none rest is = record {
    within = omega (arith, ap (λ z. z.passed) is);
    finds = λ k. is ∙ ap (λ n. back_stop fore back (forwards fore inner p.chunk.now) (take n (text_under p.right)) a) (sym none);
  }
