-- The chunks that an edit replaces cover its range; how many bytes come in their place.
use Rattle.std.proofs.Common.{◌≡◌, ℕ, ◌+◌, ◌-◌, ◌<◌, ◌≤◌, true, cond, eqb, ltb, leb, List, length, refl, ap, ⊎_elim, arith}
use Rattle.std.specs.List.{AllByRecursion as All}
use Rattle.std.proofs.lemmas.Bool.{cases_lt, cond-true, cond-false, cond_both, ltb-true, lt-ltb, le-ltb, eqb-true, eqb-false, leb-true, and_parts}
use Rattle.chunks.specs.Cut.{joined, Chunk}
use Rattle.chunks.specs.Spot.{spot_in}
use Rattle.chunks.proofs.Joined.{start, start_within, start_monotone, start_step, spotted, spots_ordered, spot_small}
use Rattle.model.specs.declared.run.Run.{Run}
use Rattle.model.specs.Edit.{run_of, first_byte, last_byte, touched, middle_length, few, with_neighbour, affected}

-- A run of chunks that holds all of a range.
pub record Covers (chunks : List (List ℕ)) (from to : ℕ) (run : Run) : Type 0 where
  pub is : run ≡ run_of chunks run.first run.last
  pub ordered : run.first ≤ run.last
  pub known : run.last ≤ length chunks
  pub before : run.start ≤ from
  pub behind : to ≤ run.end
  pub within : run.end ≤ length (joined chunks)

covers_run : (chunks : List (List ℕ)) (from to first last : ℕ) → first ≤ last → last ≤ length chunks → start chunks first ≤ from → to ≤ start chunks last → Covers chunks from to (run_of chunks first last)
covers_run chunks from to first last o k b e = record { is = refl; ordered = o; known = k; before = b; behind = e; within = start_within chunks last }

module _ (chunks : List (List ℕ)) (from to : ℕ) (forward : from ≤ to) (inside : to ≤ length (joined chunks)) where
  -- The bytes that tell which chunks are touched.
  pub record Told (low high : ℕ) : Type 0 where
    pub ordered : low ≤ high
    pub within : high < length (joined chunks)
    pub low_before : low ≤ from
    pub high_behind : to ≤ high + 1
    pub low_near : from ≤ low + 1
    pub high_near : high ≤ to

  pub told : 0 < length (joined chunks) → Told (first_byte from to) (last_byte from to)
  told some =
      ⊎_elim
      (λ h. let low = cond-true (ltb from to) from (from - 1) (lt-ltb from to h) in
      let high = cond-true (ltb from to) (to - 1) (from - 1) (lt-ltb from to h) in
      record { ordered = omega arith; within = omega arith; low_before = omega arith; high_behind = omega arith; low_near = omega arith; high_near = omega arith })
      (λ h. let low = cond-false (ltb from to) from (from - 1) (le-ltb from to h) in
      let high = cond-false (ltb from to) (to - 1) (from - 1) (le-ltb from to h) in
      record { ordered = omega arith; within = omega arith; low_before = omega arith; high_behind = omega arith; low_near = omega arith; high_near = omega arith })
      (cases_lt from to)

  pub covers_spots : (low high : ℕ) → Told low high → Covers chunks from to (run_of chunks (spot_in chunks low).chunk ((spot_in chunks high).chunk + 1))
  covers_spots low high t =
      let s = spotted chunks low (omega (arith, t.ordered, t.within)) in
      let e = spotted chunks high t.within in
      let order = spots_ordered chunks low high _ _ s e t.ordered in
      covers_run chunks from to _ _ (omega arith) (omega arith) (omega (arith, t.low_before)) (omega (arith, t.high_behind))

  pub covers_touched : Covers chunks from to (touched chunks from to)
  unfolding touched
  covers_touched =
      cond_both (eqb (length (joined chunks)) 0) (run_of chunks 0 0) (run_of chunks (spot_in chunks (first_byte from to)).chunk ((spot_in chunks (last_byte from to)).chunk + 1)) (Covers chunks from to)
      (λ e. let none = eqb-true (length (joined chunks)) 0 e in covers_run chunks from to 0 0 (omega arith) (omega arith) (omega arith) (omega arith))
      (λ e. let some = eqb-false (length (joined chunks)) 0 e in covers_spots _ _ (told (omega arith)))

  -- A run that holds one which covers the range covers it too.
  covers_wider : (run : Run) → Covers chunks from to run → (first last : ℕ) → first ≤ run.first → run.last ≤ last → last ≤ length chunks → Covers chunks from to (run_of chunks first last)
  covers_wider run c first last low high known =
      covers_run chunks from to first last (omega (arith, c.ordered)) known
      (omega (arith, start_monotone chunks first run.first low, ap (λ (r : Run). r.start) c.is, c.before))
      (omega (arith, start_monotone chunks run.last last high, ap (λ (r : Run). r.end) c.is, c.behind))

  pub covers_neighbour : (run : Run) → Covers chunks from to run → Covers chunks from to (with_neighbour chunks run)
  covers_neighbour run c =
      cond_both (ltb run.last (length chunks)) (run_of chunks run.first (run.last + 1)) (cond (ltb 0 run.first) (run_of chunks (run.first - 1) run.last) run) (Covers chunks from to)
      (λ e. let more = ltb-true run.last (length chunks) e in covers_wider run c run.first (run.last + 1) (omega arith) (omega arith) (omega arith))
      (λ e. cond_both (ltb 0 run.first) (run_of chunks (run.first - 1) run.last) run (Covers chunks from to) (λ h. covers_wider run c (run.first - 1) run.last (omega arith) (omega arith) c.known) (λ h. c))

  pub covers_affected : (count : ℕ) → Covers chunks from to (affected chunks from to count)
  unfolding affected
  covers_affected count =
      let run = touched chunks from to in
      cond_both (few (middle_length run from to count)) (with_neighbour chunks run) run (Covers chunks from to) (λ e. covers_neighbour run covers_touched) (λ e. covers_touched)

  module _ (each : All Chunk chunks) (count : ℕ) where
    -- No more than 64 bytes stay on either side of the range.
    short_touched : middle_length (touched chunks from to) from to count ≤ count + 128
    unfolding touched
    short_touched =
        let c = covers_touched in
        cond_both (eqb (length (joined chunks)) 0) (run_of chunks 0 0) (run_of chunks (spot_in chunks (first_byte from to)).chunk ((spot_in chunks (last_byte from to)).chunk + 1)) (λ run. middle_length run from to count ≤ count + 128)
        (λ e. let none = eqb-true (length (joined chunks)) 0 e in omega arith)
        (λ e. let some = eqb-false (length (joined chunks)) 0 e in
        let t = told (omega arith) in
        let s = spotted chunks (first_byte from to) (omega (arith, t.ordered, t.within)) in
        let h = spotted chunks (last_byte from to) t.within in
        let small = spot_small chunks each _ _ s in
        let hsmall = spot_small chunks each _ _ h in
        omega (arith, t.low_near, t.high_near))

    short_neighbour : (run : Run) → Covers chunks from to run → few (middle_length run from to count) ≡ true → middle_length (with_neighbour chunks run) from to count ≤ 128
    short_neighbour run c e =
        let starts = ap (λ (r : Run). r.start) c.is in
        let ends = ap (λ (r : Run). r.end) c.is in
        let j = middle_length run from to count in
        let little : j ≤ 31 = leb-true j 31 (and_parts (leb 1 j) (leb j 31) e).1 in
        cond_both (ltb run.last (length chunks)) (run_of chunks run.first (run.last + 1)) (cond (ltb 0 run.first) (run_of chunks (run.first - 1) run.last) run) (λ r. middle_length r from to count ≤ 128)
        (λ m. let more = ltb-true run.last (length chunks) m in
        let step = (start_step chunks each run.last more).1 in
        let low = (start_step chunks each run.last more).0 in
        omega arith)
        (λ m. cond_both (ltb 0 run.first) (run_of chunks (run.first - 1) run.last) run (λ r. middle_length r from to count ≤ 128)
        (λ h. let some = ltb-true 0 run.first h in
        let here : run.first - 1 + 1 ≡ run.first = omega arith in
        let step = (start_step chunks each (run.first - 1) (omega arith)).1 in
        let low = (start_step chunks each (run.first - 1) (omega arith)).0 in
        let same = ap (start chunks) here in
        omega arith)
        (λ h. omega arith))

    pub short_middle : middle_length (affected chunks from to count) from to count ≤ count + 128
    unfolding affected
    short_middle =
        let run = touched chunks from to in
        cond_both (few (middle_length run from to count)) (with_neighbour chunks run) run (λ r. middle_length r from to count ≤ count + 128) (λ e. let s = short_neighbour run covers_touched e in omega arith) (λ e. short_touched)
