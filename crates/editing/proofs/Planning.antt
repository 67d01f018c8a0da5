-- The runs of chunks that the code puts together from spots, and the tests of an edit one after another.
use Rattle.std.proofs.Common.{◌≡◌, ℕ, ◌+◌, ◌-◌, ◌<◌, ◌≤◌, Bool, true, cond, ◌&&◌, ltb, leb, List, length, Some, None, Ok, Option, sym, refl, ap, ◌∙◌, subst, ⊎_elim, arith}
use Rattle.std.specs.List.{All}
use Rattle.std.proofs.lemmas.List.Elements.{recursion_from_All}
use Rattle.std.proofs.lemmas.Bool.{cond-true, cond-false, lt-ltb, le-ltb, le-leb, lt-leb, leb-true, and_from, and_parts, cases_Bool}
use Rattle.chunks.specs.Cut.{joined, Chunk, needed}
use Rattle.chunks.specs.SizedSpot.{sized_spot_in}
use Rattle.chunks.specs.declared.sized_spot.SizedSpot.{SizedSpot}
use Rattle.chunks.proofs.Joined.{start, start_within, start_step, Spotted, spotted, spotted_alone}
use Rattle.model.specs.declared.refusal.Refusal.{Refusal}
use Rattle.model.specs.declared.refusal.Refusal.TheVariants.{OutsideText, TooManyBytes, TooManyChunks}
use Rattle.model.specs.declared.run.Run.{Run}
use Rattle.model.specs.Calls.{unless, answered, change_refusal}
use Rattle.model.specs.Edit.{run_of, with_neighbour, affected, middle_length, edited_chunks}
use Rattle.model.proofs.Editing.{edited_count}
use Rattle.model.specs.Model.{Model, text_of}

same_run : (f f' l l' s s' e e' : ℕ) → f ≡ f' → l ≡ l' → s ≡ s' → e ≡ e' → ◌≡◌ {A = Run} (record { first = f; last = l; start = s; end = e }) (record { first = f'; last = l'; start = s'; end = e' })
same_run f f' l l' s s' e e' p q u v = λ z. record { first = p z; last = q z; start = u z; end = v z }

-- A place of the text is no further on than its spot is in its chunk.
pub spot_inside : (cs : List (List ℕ)) (place : ℕ) → place < length (joined cs) → (sized_spot_in cs place).inside ≤ place
spot_inside cs place h = let at = spotted cs place h in omega arith

-- The chunks between two bytes, from the spots of the bytes.
pub record SpotsTell (cs : List (List ℕ)) (low high : ℕ) (s t : SizedSpot) : Type 0 where
  pub end_within : high - t.inside + t.size ≤ length (joined cs)
  pub run_is : ◌≡◌ {A = Run} (record { first = s.chunk; last = t.chunk + 1; start = low - s.inside; end = high - t.inside + t.size }) (run_of cs (sized_spot_in cs low).chunk ((sized_spot_in cs high).chunk + 1))

pub spots_tell : (cs : List (List ℕ)) (low high : ℕ) (s t : SizedSpot) → low ≤ high → high < length (joined cs) → s ≡ sized_spot_in cs low → t ≡ sized_spot_in cs high → SpotsTell cs low high s t
spots_tell cs low high s t order within is it =
    let a = subst (Spotted cs low) (sym is) (spotted cs low (omega arith)) in
    let b = subst (Spotted cs high) (sym it) (spotted cs high within) in
    let first = ap (λ (x : SizedSpot). x.chunk) is in
    let last = ap (λ (x : SizedSpot). x.chunk + 1) it in
    let starts : low - s.inside ≡ start cs s.chunk = omega arith in
    let ends : high - t.inside + t.size ≡ start cs (t.chunk + 1) = omega arith in
    record {
      end_within = omega (arith, ends, start_within cs (t.chunk + 1));
      run_is = same_run _ _ _ _ _ _ _ _ first last (starts ∙ ap (start cs) first) (ends ∙ ap (start cs) last);
    }

module _ (cs : List (List ℕ)) (each : All Chunk cs) (run : Run) (is : run ≡ run_of cs run.first run.last) (ordered : run.first ≤ run.last) (known : run.last ≤ length cs) where
  starts_at : run.start ≡ start cs run.first
  starts_at = ap (λ (r : Run). r.start) is

  ends_at : run.end ≡ start cs run.last
  ends_at = ap (λ (r : Run). r.end) is

  -- The chunk on the right.
  pub record RightTold (s : SizedSpot) : Type 0 where
    pub end_within : run.end + s.size ≤ length (joined cs)
    pub run_is : ◌≡◌ {A = Run} (record { first = run.first; last = run.last + 1; start = run.start; end = run.end + s.size }) (with_neighbour cs run)

  pub right_told : run.last < length cs → (s : SizedSpot) → s ≡ sized_spot_in cs run.end → RightTold s
  right_told more s e =
      let step = (start_step cs (recursion_from_All Chunk cs each) run.last more).0 in
      let at_end = ends_at in
      let whole = start_within cs (run.last + 1) in
      let a = subst (Spotted cs run.end) (sym e) (spotted cs run.end (omega arith)) in
      let here = spotted_alone cs run.end run.last s a (omega arith) (omega arith) in
      let next = a.ends in
      let sum : start cs (run.last + 1) ≡ start cs run.last + s.size = sym (ap (λ n. start cs (n + 1)) here) ∙ next ∙ ap (λ n. start cs n + s.size) here in
      let ends : run.end + s.size ≡ start cs (run.last + 1) = omega arith in
      record {
        end_within = omega arith;
        run_is = same_run _ _ _ _ _ _ _ _ refl refl starts_at ends ∙ sym (cond-true (ltb run.last (length cs)) (run_of cs run.first (run.last + 1)) (cond (ltb 0 run.first) (run_of cs (run.first - 1) run.last) run) (lt-ltb run.last (length cs) more));
      }

  -- The chunk on the left, where there is none on the right.
  pub record LeftTold (s : SizedSpot) : Type 0 where
    pub some_byte : 1 ≤ run.start
    pub size_before : s.size ≤ run.start
    pub run_is : ◌≡◌ {A = Run} (record { first = run.first - 1; last = run.last; start = run.start - s.size; end = run.end }) (with_neighbour cs run)

  pub left_some : 0 < run.first → 1 ≤ run.start
  left_some some =
      let sum : run.first - 1 + 1 ≡ run.first = omega arith in
      let step = (start_step cs (recursion_from_All Chunk cs each) (run.first - 1) (omega arith)).0 in
      omega (arith, starts_at, ap (start cs) sum)

  pub left_told : length cs ≤ run.last → 0 < run.first → (s : SizedSpot) → s ≡ sized_spot_in cs (run.start - 1) → LeftTold s
  left_told none some s e =
      let sum : run.first - 1 + 1 ≡ run.first = omega arith in
      let step = (start_step cs (recursion_from_All Chunk cs each) (run.first - 1) (omega arith)).0 in
      let same = ap (start cs) sum in
      let at-start = starts_at in
      let whole = start_within cs run.first in
      let a = subst (Spotted cs (run.start - 1)) (sym e) (spotted cs (run.start - 1) (omega arith)) in
      let here = spotted_alone cs (run.start - 1) (run.first - 1) s a (omega arith) (omega arith) in
      let next = a.ends in
      let gap : start cs run.first ≡ start cs (run.first - 1) + s.size = sym same ∙ sym (ap (λ n. start cs (n + 1)) here) ∙ next ∙ ap (λ n. start cs n + s.size) here in
      let starts : run.start - s.size ≡ start cs (run.first - 1) = omega arith in
      record {
        some_byte = omega arith;
        size_before = omega arith;
        run_is = same_run _ _ _ _ _ _ _ _ refl refl starts ends_at
            ∙ sym (cond-false (ltb run.last (length cs)) (run_of cs run.first (run.last + 1)) (cond (ltb 0 run.first) (run_of cs (run.first - 1) run.last) run) (le-ltb run.last (length cs) none)
            ∙ cond-true (ltb 0 run.first) (run_of cs (run.first - 1) run.last) run (lt-ltb 0 run.first some));
      }

-- An edit that passes its tests.
pub record Allowed (m : Model) (from to : ℕ) (new : List ℕ) : Type 0 where
  pub forward : from ≤ to
  pub inside : to ≤ length (text_of m)
  pub few_bytes : length new ≤ 1024
  pub few_chunks : length (edited_chunks m.chunks from to new) ≤ m.usable

-- A test that let an answer pass.
pub passed : (b : Bool) (r : Refusal) (next : Option Refusal) → unless b r next ≡ None → (b ≡ true) × (next ≡ None)
passed b r next e =
    ⊎_elim (λ t. (t, sym (cond-true b next (Some r) t) ∙ e)) (λ f. absurd (cc (sym (cond-false b next (Some r) f) ∙ e))) (cases_Bool b)

module _ (m : Model) (from to : ℕ) (new : List ℕ) where
  abbrev count_test : Option Refusal → Option Refusal
  count_test = unless (leb (length new) 1024) (TooManyBytes (length new))

  abbrev chunks_after : ℕ
  chunks_after = length (edited_chunks m.chunks from to new)

  abbrev chunk_test : Option Refusal
  chunk_test = unless (leb chunks_after m.usable) (TooManyChunks chunks_after) None

  past_two : from ≤ to → to ≤ length (text_of m) → length new ≤ 1024 → change_refusal m from to new ≡ chunk_test
  past_two f i k =
      cond-true (leb from to && leb to (length (text_of m))) (count_test chunk_test) (Some (OutsideText to)) (and_from _ _ (le-leb from to f) (le-leb to (length (text_of m)) i))
      ∙ cond-true (leb (length new) 1024) chunk_test (Some (TooManyBytes (length new))) (le-leb (length new) 1024 k)

  pub chunks_refused : from ≤ to → to ≤ length (text_of m) → length new ≤ 1024 → m.usable < chunks_after → change_refusal m from to new ≡ Some (TooManyChunks chunks_after)
  chunks_refused f i k h = past_two f i k ∙ cond-false (leb chunks_after m.usable) None (Some (TooManyChunks chunks_after)) (lt-leb chunks_after m.usable h)

  pub allowed : Allowed m from to new → change_refusal m from to new ≡ None
  allowed a = past_two a.forward a.inside a.few_bytes ∙ cond-true (leb chunks_after m.usable) None (Some (TooManyChunks chunks_after)) (le-leb chunks_after m.usable a.few_chunks)

  -- And the other way round.
  pub was_allowed : change_refusal m from to new ≡ None → Allowed m from to new
  was_allowed e =
      let one = passed (leb from to && leb to (length (text_of m))) (OutsideText to) (count_test chunk_test) e in
      let range = and_parts (leb from to) (leb to (length (text_of m))) one.0 in
      let two = passed (leb (length new) 1024) (TooManyBytes (length new)) chunk_test one.1 in
      let three = passed (leb chunks_after m.usable) (TooManyChunks chunks_after) None two.1 in
      record { forward = leb-true from to range.0; inside = leb-true to (length (text_of m)) range.1; few_bytes = leb-true (length new) 1024 two.0; few_chunks = leb-true chunks_after m.usable three.0 }

-- What an answer tells of the refusal in it.
pub answered_ok : {X : Type 0} (o : Option Refusal) (x y : X) → answered o x ≡ Ok y → (o ≡ None) × (x ≡ y)
answered_ok None x y e = (refl, cc)
answered_ok (Some r) x y e = absurd (cc)

-- The chunks after an edit, counted from the run that it replaces.
pub count_told : (cs : List (List ℕ)) (from to : ℕ) (new : List ℕ) (run : Run) → run ≡ affected cs from to (length new) → from ≤ to → to ≤ length (joined cs) →
    (n mid d : ℕ) → n ≡ length cs → mid ≡ middle_length run from to (length new) → d ≡ needed mid → n - (run.last - run.first) + d ≡ length (edited_chunks cs from to new)
count_told cs from to new run is forward inside n mid d all long made =
    let count = edited_count cs from to new forward inside in
    let first = ap (λ (r : Run). r.first) is in
    let last = ap (λ (r : Run). r.last) is in
    let same : d ≡ needed (middle_length (affected cs from to (length new)) from to (length new)) = made ∙ ap needed (long ∙ ap (λ (r : Run). middle_length r from to (length new)) is) in
    omega (arith, count, first, last, same)
