-- What is compared with a text, and what is written to the front of a buffer.
use Rattle.std.proofs.Common.{◌≡◌, ℕ, ◌+◌, List, ◌++◌, length, take, drop, refl, sym, ap, ◌∙◌, arith}
use Rattle.std.specs.List.{between}
use Rattle.std.proofs.lemmas.Bool.Decides.{Decides-like}
use Rattle.std.proofs.lemmas.List.{take-append-drop, take_at, drop_at}
use Rattle.std.proofs.lemmas.Slice.Eq.{bytes_eq-Decides}
use Rattle.model.specs.Calls.{begins}
use Rattle.model.specs.Laws.{SameCompares, FrontIsWritten}

pub same_compares : SameCompares
same_compares text at given =
    let n = length given in
    let part : between at (at + n) text ≡ take n (drop at text) = ap (λ k. take k (drop at text)) (omega arith) in
    Decides-like (begins text at given)
    (λ e. (drop n (drop at text), sym (take-append-drop n (drop at text)) ∙ ap (λ l. l ++ drop n (drop at text)) (sym part ∙ e)))
    (λ e. part ∙ ap (take n) e.1 ∙ take_at given e.0 n refl)
    (bytes_eq-Decides (between at (at + n) text) given)

pub front_is_written : (part buffer : List ℕ) → FrontIsWritten part buffer
front_is_written part buffer = record { front = take_at part (drop (length part) buffer) (length part) refl; rest = drop_at part (drop (length part) buffer) (length part) refl }
