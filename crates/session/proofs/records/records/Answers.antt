use Rattle.std.proofs.Common.{rules, ◌≡◌, ap, sym, ◌∙◌, ◌++◌, List, [], ◌∷◌, Some, None, Option, refl, append_assoc, append-nil}
use Rattle.std.specs.Option.{option_map}
use Rattle.model.specs.declared.replacement.Replacement.{Replacement}
use Rattle.notation.specs.Words.{word, behind}
use Rattle.session.specs.Records.{record_of, in_front, records_of}
use Rattle.session.proofs.Splitting.{records_more, records_none}
use Rattle.session.proofs.records.records.Goals as goal

-- The records so far in front of those that are left.
abbrev with_left : List Replacement → Option (List Replacement) → Option (List Replacement)
with_left out left = option_map (λ rest. out ++ rest) left

one_put : (out : List Replacement) (r : Replacement) (rest : Option (List Replacement)) → with_left (out ++ r ∷ []) rest ≡ with_left out (in_front (Some r) rest)
one_put out r None = refl
one_put out r (Some rest) = ap Some (append_assoc out (r ∷ []) rest)

pub loop-left-preserved : goal.loop-left-preserved
loop-left-preserved c =
    let left = c.loop-left.left.now in
    let out = c.loop-left.out.items in
    let r = c.in-Some.next in
    let more = records_more left (sym c.is_over.ensures ∙ c.loop-left-test.true) in
    let some : record_of (word left) ≡ Some r = cc in
    let all : records_of left ≡ in_front (Some r) (records_of (behind left)) = more ∙ ap (λ o. in_front o (records_of (behind left))) some in
    let grown : c.push.new.self.items ≡ out ++ r ∷ [] = search rules in
    ap (λ o. with_left o (records_of c.behind-left.result.now)) grown
    ∙ ap (λ line. with_left (out ++ r ∷ []) (records_of line)) c.behind-left.ensures
    ∙ one_put out r (records_of (behind left))
    ∙ sym (ap (with_left out) all)
    ∙ c.loop-left.invariant

pub returns : goal.returns
returns c =
    let out = c.loop-left.out.items in
    let none = records_none c.loop-left.left.now (sym c.is_over.ensures ∙ c.loop-left-test.false) in
    ap Some (sym (append-nil out)) ∙ sym (ap (with_left out) none) ∙ c.loop-left.invariant
