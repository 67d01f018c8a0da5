-- A search over parts of a text, and the parts that a subtree's text has from a place on.
use Rattle.std.proofs.Common.{◌≡◌, ℕ, ◌-◌, true, false, List, ◌++◌, length, drop, Option, sym, ap, ◌∙◌, subst, append_assoc, arith}
use Rattle.std.proofs.lemmas.List.{length-append}
use Rattle.measure.specs.Measure.{Measure, reading}
use Rattle.search.specs.declared.stop.Stop.{Stop}
use Rattle.search.specs.Forwards.{shifted, stop}
use Rattle.search.proofs.Forwards.{stops_before, goes_behind}
use Rattle.slots.proofs.Ranges.{drop_over}
use Rattle.questions.specs.declared.subtree.Subtree.{Subtree}
use Rattle.questions.specs.declared.subtree.Parts.{Parts}
use Rattle.questions.specs.Parted.{Apart}
use Rattle.questions.specs.Under.{text_under, KeptUnder}
use Rattle.seek.proofs.Found.{Found}
use Rattle.seek.proofs.Parting.{parts_cut}

module _ {A : Type 0} (next : A → ℕ → Option A) (K : Type 0) where
  abbrev pub Ahead : A → List ℕ → Stop A → Type 0
  Ahead at text s = Found K text (stop next at text) s

  -- It stops in the first part.
  pub stops_first : (at : A) (xs ys : List ℕ) (s : Stop A) → Ahead at xs s → s.stopped ≡ true → Ahead at (xs ++ ys) s
  stops_first at xs ys s found stopped = record {
    within = omega (arith, length-append xs ys, found.within);
    finds = λ k. stops_before next at xs ys s (found.finds k) stopped;
  }

  -- It runs through the first part, and goes on in the second.
  pub goes_on : (at : A) (xs ys : List ℕ) (s : Stop A) → Ahead at xs s → s.stopped ≡ false → (rest : Stop A) → Ahead s.at ys rest → (all : Stop A) → all ≡ shifted s.passed rest → Ahead at (xs ++ ys) all
  goes_on at xs ys s found running rest behind all is = record {
    within = omega (arith, ap (λ z. z.passed) is, length-append xs ys, found.within, behind.within);
    finds = λ k. is ∙ ap (shifted s.passed) (behind.finds k) ∙ goes_behind next at xs ys s (found.finds k) running;
  }

-- A search in a subtree, part by part, from a place on.
module _ {R A : Type 0} (next : A → ℕ → Option A) (μ : Measure R) (at : A) {s : Subtree R} {p : Parts R} (apart : Apart s p) (place inside beyond : ℕ) (inside-is : inside ≡ place - length (text_under p.left)) (beyond-is : beyond ≡ inside - length p.chunk.now) (first : Stop A)
    (left : Ahead next (KeptUnder p.left μ) at (drop place (text_under p.left)) first) where
  abbrev xs : List ℕ
  xs = drop place (text_under p.left)

  abbrev cs : List ℕ
  cs = drop inside p.chunk.now

  abbrev ys : List ℕ
  ys = drop beyond (text_under p.right)

  whole : {z : Stop A} → Ahead next (KeptUnder s μ) at ((xs ++ cs) ++ ys) z → Ahead next (KeptUnder s μ) at (drop place (text_under s)) z
  whole {z} = subst (λ l. Ahead next (KeptUnder s μ) at l z) (append_assoc xs cs ys ∙ sym (parts_cut drop drop_over apart place inside beyond inside-is beyond-is))

  on-left : Ahead next (KeptUnder s μ) at xs first
  on-left = record { within = left.within; finds = λ k. left.finds (apart.left_keeps μ k) }

  pub stopped_left : first.stopped ≡ true → Ahead next (KeptUnder s μ) at (drop place (text_under s)) first
  stopped_left stopped = whole (stops_first next (KeptUnder s μ) at (xs ++ cs) ys first (stops_first next (KeptUnder s μ) at xs cs first on-left stopped) stopped)

  module _ (running : first.stopped ≡ false) (own : Stop A) (here : Ahead next (p.reading.now ≡ reading μ p.chunk.now) first.at cs own) (both : Stop A) (both-is : both ≡ shifted first.passed own) where
    so_far : Ahead next (KeptUnder s μ) at (xs ++ cs) both
    so_far = goes_on next (KeptUnder s μ) at xs cs first on-left running own (record { within = here.within; finds = λ k. here.finds (apart.own_kept μ k) }) both both-is

    pub stopped_own : both.stopped ≡ true → Ahead next (KeptUnder s μ) at (drop place (text_under s)) both
    stopped_own stopped = whole (stops_first next (KeptUnder s μ) at (xs ++ cs) ys both so_far stopped)

    pub found_all : both.stopped ≡ false → (rest : Stop A) → Ahead next (KeptUnder p.right μ) both.at ys rest → (all : Stop A) → all ≡ shifted both.passed rest → Ahead next (KeptUnder s μ) at (drop place (text_under s)) all
    found_all goes rest right all is = whole (goes_on next (KeptUnder s μ) at (xs ++ cs) ys both so_far goes rest (record { within = right.within; finds = λ k. right.finds (apart.right_keeps μ k) }) all is)
