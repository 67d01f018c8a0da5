-- What is written to the front of a buffer of which a call may use so many cells.
use Rattle.std.proofs.Common.{◌≡◌, ℕ, ◌-◌, ◌≤◌, cond, ◌&&◌, leb, List, ◌++◌, length, take, drop, is_ok, IfOk, Some, None, Ok, Err, Option, Result, sym, refl, ap, ◌∙◌, append_assoc, arith}
use Rattle.std.proofs.lemmas.List.{take-append-drop}
use Rattle.std.proofs.lemmas.Bool.{leb-true, and_parts}
use Rattle.std.proofs.lemmas.Slice.{between_is}
use Rattle.automaton.specs.Automaton.{Automaton}
use Rattle.automaton.specs.Walk.{colours_from}
use Rattle.automaton.proofs.Walk.{colours_length}
use Rattle.model.specs.declared.refusal.Refusal.{Refusal}
use Rattle.model.specs.declared.refusal.Refusal.TheVariants.{OutsideText, ShortBuffer}
use Rattle.model.specs.Calls.{unless, answered, range_refusal, with_front}
use Rattle.model.specs.Model.{Model, text_of}
use Rattle.model.specs.SomeWalk.{BySomeWalk}
use Rattle.model.proofs.Editing.{between_drop}
use Rattle.editing.proofs.Planning.{passed}

-- A part written to the front of the first cells of a buffer.
pub front_extends : (part buffer out : List ℕ) (cells : ℕ) → length part ≤ cells → out ≡ with_front part (take cells buffer) → out ++ drop cells buffer ≡ with_front part buffer
front_extends part buffer out cells fits is =
    let n = length part in
    ap (λ l. l ++ drop cells buffer) is
    ∙ append_assoc part (drop n (take cells buffer)) (drop cells buffer)
    ∙ ap (λ l. part ++ (l ++ drop cells buffer)) (sym (between_is buffer n cells))
    ∙ ap (λ l. part ++ l) (between_drop n cells buffer fits)

-- A buffer behind a call that writes to its first cells only, which holds as well where it was refused.
pub written_within : (o : Option Refusal) (r : Result (Unit {0}) Refusal) → r ≡ answered o tt → (part buffer out : List ℕ) (cells : ℕ) → (o ≡ None → length part ≤ cells) →
    out ≡ cond (is_ok r) (with_front part (take cells buffer)) (take cells buffer) → out ++ drop cells buffer ≡ cond (is_ok r) (with_front part buffer) buffer
written_within None (Ok x) is part buffer out cells fits e = front_extends part buffer out cells (fits refl) e
written_within (Some f) (Ok x) is part buffer out cells fits e = cc
written_within o (Err f) is part buffer out cells fits e = ap (λ l. l ++ drop cells buffer) e ∙ take-append-drop cells buffer

pub kept_within : (o : Option Refusal) (r : Result (Unit {0}) Refusal) → r ≡ answered o tt → (K : Type 0) (part buffer out : List ℕ) (cells : ℕ) → (o ≡ None → length part ≤ cells) →
    IfOk r (λ _. K → out ≡ with_front part (take cells buffer)) → IfOk r (λ _. K → out ++ drop cells buffer ≡ with_front part buffer)
kept_within None (Ok x) is K part buffer out cells fits told = λ kept. front_extends part buffer out cells (fits refl) (told kept)
kept_within (Some f) (Ok x) is K part buffer out cells fits told = cc
kept_within o (Err f) is K part buffer out cells fits told = tt

-- The same with the colours of some walk.
pub coloured_within : (o : Option Refusal) (r : Result (Unit {0}) Refusal) → r ≡ answered o tt → (a : Automaton) (bytes buffer out : List ℕ) (cells : ℕ) → (o ≡ None → length bytes ≤ cells) →
    IfOk r (λ _. BySomeWalk a bytes (λ l. with_front l (take cells buffer)) out) → IfOk r (λ _. BySomeWalk a bytes (λ l. with_front l buffer) (out ++ drop cells buffer))
coloured_within None (Ok x) is a bytes buffer out cells fits told = record {
  state = told.state;
  is = front_extends (colours_from a told.state bytes) buffer out cells (omega (arith, colours_length a told.state bytes, fits refl)) told.is;
}
coloured_within (Some f) (Ok x) is a bytes buffer out cells fits told = cc
coloured_within o (Err f) is a bytes buffer out cells fits told = tt

-- A range that is not refused fits its buffer.
pub range_room : (m : Model) (from to cells : ℕ) → range_refusal m from to cells ≡ None → (to ≤ length (text_of m)) × (to - from ≤ cells)
range_room m from to cells e =
    let one = passed (leb from to && leb to (length (text_of m))) (OutsideText to) (unless (leb (to - from) cells) (ShortBuffer cells) None) e in
    let two = passed (leb (to - from) cells) (ShortBuffer cells) None one.1 in
    (leb-true to (length (text_of m)) (and_parts (leb from to) (leb to (length (text_of m))) one.0).1, leb-true (to - from) cells two.0)
