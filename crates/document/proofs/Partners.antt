-- What PARTNER answers, whatever readings are kept.
use Rattle.std.proofs.Common.{◌≡◌, ℕ, ltb, Bool, true, false, List, length, ◌⊎◌, MatchResult, Some, None, Ok, Err, Option, Result, sym, refl, subst, ⊎_elim}
use Rattle.automaton.specs.Automaton.{Automaton}
use Rattle.brackets.specs.Partner.{role_at, is_live, partner}
use Rattle.brackets.specs.declared.partner.Partner.{Partner}
use Rattle.lookup.specs.Partner.{RefusedAnyway}
use Rattle.model.specs.declared.refusal.Refusal.{Refusal}
use Rattle.model.specs.declared.refusal.Refusal.TheVariants.{OutsidePlace, NoBracket}
use Rattle.model.specs.Calls.{unless, refusal_in}
use Rattle.document.specs.declared.call.Call.{Call}
use Rattle.document.specs.declared.call.Call.TheVariants as call
use Rattle.document.specs.declared.call.Answer.{Answer}
use Rattle.document.specs.declared.call.Answer.TheVariants as answer
use Rattle.document.specs.Content.{text}
use Rattle.document.specs.Snapshot.{Snapshot}
use Rattle.document.specs.Log.{replied, left_by, but_readings, FoundInText, ObeysInText}

same_left : {Y : Type 0} (o : Option Refusal) (y : Y) → y ≡ left_by o y y
same_left None y = refl
same_left (Some f) y = refl

module _ (t : List ℕ) (place : ℕ) (found : Option Partner) where
  -- An answer, by whether the place lies in the text and whether a live bracket is there.
  abbrev AnswersSo : Bool → Bool → Answer → Type 0
  AnswersSo inside live told = (but_readings told ≡ but_readings (replied (unless inside (OutsidePlace place) (unless live (NoBracket place) None)) (answer.Partner found))) × FoundInText t (call.Partner place) told

  -- Whether it is there is left open.
  either : (live : Bool) → answer.Partner None ≡ but_readings (replied (unless live (NoBracket place) None) (answer.Partner found))
  either true = refl
  either false = refl

  answers_so : (inside live : Bool) (told : Answer) (result : Result (Option Partner) Refusal) → (inside ≡ false → result ≡ Err (OutsidePlace place)) → (inside ≡ true → (refusal_in result ≡ None) ⊎ (refusal_in result ≡ Some (NoBracket place))) →
      MatchResult result (λ p. told ≡ answer.Partner p) (λ f. told ≡ answer.Refused f) → AnswersSo inside live told
  answers_so false live told (Ok p) outside within is = let no = outside refl in cc
  answers_so false live told (Err f) outside within is =
      let same : told ≡ answer.Refused (OutsidePlace place) = let e = outside refl in cc in
      subst (AnswersSo false live) (sym same) (refl, tt)
  answers_so true live told (Ok p) outside within is = subst (AnswersSo true live) (sym is) (either live, tt)
  answers_so true live told (Err f) outside within is = ⊎_elim
      (λ no. cc)
      (λ e. let same : told ≡ answer.Refused (NoBracket place) = cc in subst (AnswersSo true live) (sym same) (either live, refl))
      (within refl)

pub partner_obeys : {R : Type 0} (a : Automaton) (s : Snapshot R) (k : Call) (place : ℕ) (told : Answer) (result : Result (Option Partner) Refusal) → k ≡ call.Partner place → RefusedAnyway (text s.document) place result →
    MatchResult result (λ p. told ≡ answer.Partner p) (λ f. told ≡ answer.Refused f) → ObeysInText a s (record { call = k; answer = told; after = s })
partner_obeys a s k place told result is anyway answered =
    let t = text s.document in
    let answer = answers_so t place (partner a t place) (ltb place (length t)) (is_live (role_at a t place)) told result anyway.outside anyway.within answered in
    subst (λ j. ObeysInText a s (record { call = j; answer = told; after = s })) (sym is) (record {
      answer_is = answer.0;
      found_so = answer.1;
      model_is = same_left _ _;
      screen_is = λ _. refl;
      buffer_is = λ _. refl;
      reading_is = λ _. refl;
      refused_leaves = λ f _. ((refl, refl), (refl, (refl, refl)));
    })
