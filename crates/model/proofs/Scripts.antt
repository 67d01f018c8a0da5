-- A script stops at the first record that is refused: by its records, one after another.
use Rattle.std.proofs.Common.{◌≡◌, ℕ, zero, suc, ◌+◌, ◌-◌, ◌<◌, ◌≤◌, List, [], ◌∷◌, ◌++◌, take, drop, Some, None, Option, refl, sym, ap, ◌∙◌, arith}
use Rattle.std.proofs.lemmas.List.{take-append-drop, drop-drop}
use Rattle.automaton.specs.Automaton.{Automaton}
use Rattle.model.specs.declared.refusal.Refusal.{Refusal}
use Rattle.model.specs.declared.replacement.Replacement.{Replacement}
use Rattle.model.specs.Laws.{behind, shown_behind, StopsAtRefused, PartLies, ScriptsStopAtRefused}
use Rattle.model.specs.Model.{Model}
use Rattle.model.specs.Script.{part_of, record_refusal, recorded, record_painted, Scripted, stopped_or, scripted, screen_or, script_screen}

head_of : (r q : Replacement) (rs rest : List Replacement) → r ∷ rs ≡ q ∷ rest → r ≡ q
head_of r q rs rest e = cc

module _ (cells : ℕ) (given : List ℕ) where
  one_record : (m : Model) (r : Replacement) (rs : List Replacement) (s : Scripted) (o : Option Refusal) → record_refusal cells given m r ≡ o → StopsAtRefused cells given (recorded given m r) rs s → StopsAtRefused cells given m (r ∷ rs) (stopped_or o m s)
  one_record m r rs s None e further = record {
    after = further.after;
    taken = first;
    all_done = λ none. ap suc (further.all_done none);
    stopped = further.stopped;
  }
    where
      first : (k : ℕ) (q : Replacement) (rest : List Replacement) → k < suc s.done → drop k (r ∷ rs) ≡ q ∷ rest → record_refusal cells given (behind given m (take k (r ∷ rs))) q ≡ None
      first zero q rest low is = ap (record_refusal cells given m) (sym (head_of r q rs rest is)) ∙ e
      first (suc k) q rest low is = further.taken k q rest (omega arith) is
  one_record m r rs s (Some refused) e further = record {
    after = refl;
    taken = λ k q rest low is. absurd (omega arith);
    all_done = λ none. absurd (cc);
    stopped = λ refusal is. (r, (rs, refl), e ∙ is);
  }

  stops : (m : Model) (rs : List Replacement) → StopsAtRefused cells given m rs (scripted cells given m rs)
  stops m [] = record {
    after = refl;
    taken = λ k r rest low is. absurd (omega arith);
    all_done = λ none. refl;
    stopped = λ refusal is. absurd (cc);
  }
  stops m (r ∷ rs) = one_record m r rs (scripted cells given (recorded given m r) rs) (record_refusal cells given m r) refl (stops (recorded given m r) rs)

  module _ (a : Automaton) where
    one_painted : (m : Model) (screen : List ℕ) (r : Replacement) (rs : List Replacement) (rest : List ℕ) (s : Scripted) (o : Option Refusal) →
        rest ≡ shown_behind a given (recorded given m r) (record_painted a given m screen r) (take s.done rs) →
        screen_or o screen rest ≡ shown_behind a given m screen (take (stopped_or o m s).done (r ∷ rs))
    one_painted m screen r rs rest s None further = further
    one_painted m screen r rs rest s (Some refused) further = refl

    paints : (m : Model) (screen : List ℕ) (rs : List Replacement) → script_screen a cells given m screen rs ≡ shown_behind a given m screen (take (scripted cells given m rs).done rs)
    paints m screen [] = refl
    paints m screen (r ∷ rs) =
        let next = recorded given m r in
        let painted = record_painted a given m screen r in
        one_painted m screen r rs (script_screen a cells given next painted rs) (scripted cells given next rs) (record_refusal cells given m r) (paints next painted rs)

part_lies : (given : List ℕ) (r : Replacement) → r.start ≤ r.end → PartLies given r
part_lies given r forward =
    let n = r.end - r.start in
    let ends : r.end ≡ r.start + n = omega arith in
    let behind_it : drop r.end given ≡ drop n (drop r.start given) = ap (λ k. drop k given) ends ∙ sym (drop-drop n r.start given) in
    let rest : part_of given r ++ drop r.end given ≡ drop r.start given = ap (λ l. take n (drop r.start given) ++ l) behind_it ∙ take-append-drop n (drop r.start given) in
    sym (ap (λ l. take r.start given ++ l) rest ∙ take-append-drop r.start given)

pub scripts_stop_at_refused : ScriptsStopAtRefused
scripts_stop_at_refused = record {
  parts = part_lies;
  stops = stops;
  paints = λ a cells given m screen rs. paints cells given a m screen rs;
}
