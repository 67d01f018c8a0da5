use Rattle.std.proofs.Common.{◌≡◌, arith, rules, codes, sym, ap}
use Rattle.std.proofs.lemmas.Slice.Eq.{text_from_reads}
use Rattle.std.specs.Option.{ok_or}
use Rattle.session.specs.Names.{named}
use Rattle.session.specs.declared.problem.Problem.TheVariants.{UnknownCall}
use Rattle.session.proofs.call_name.CallNameTryFromRefSliceU8.try_from.Goals as goal

pub returns-in-screen : goal.returns-in-screen
returns-in-screen c =
    let word : c.args.word.now ≡ codes "screen" = text_from_reads _ _ (omega arith) (search rules) in
    sym (ap (λ w. ok_or (named w) UnknownCall) word)

pub returns-in-colours : goal.returns-in-colours
returns-in-colours c =
    let word : c.args.word.now ≡ codes "colours" = text_from_reads _ _ (omega arith) (search rules) in
    sym (ap (λ w. ok_or (named w) UnknownCall) word)

pub returns-in-script : goal.returns-in-script
returns-in-script c =
    let word : c.args.word.now ≡ codes "script" = text_from_reads _ _ (omega arith) (search rules) in
    sym (ap (λ w. ok_or (named w) UnknownCall) word)

pub returns-in-partner : goal.returns-in-partner
returns-in-partner c =
    let word : c.args.word.now ≡ codes "partner" = text_from_reads _ _ (omega arith) (search rules) in
    sym (ap (λ w. ok_or (named w) UnknownCall) word)
