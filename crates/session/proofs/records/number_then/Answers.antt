use Rattle.std.proofs.Common.{◌≡◌, None, Some, sym, ◌∙◌, arith, rules, tests}
use Rattle.std.specs.List.{position}
use Rattle.std.proofs.lemmas.Grind.{common_steps}
use Rattle.std.proofs.lemmas.Iterator.{YieldsList-from_slice}
use Rattle.std.proofs.lemmas.Iterator.Search.{position_from_yields_List}
use Rattle.session.proofs.Commas.{is_comma, rest_cut, front_at}
use Rattle.session.proofs.records.number_then.Goals as goal

pub returns-in_err-comma : goal.returns-in_err-comma
returns-in_err-comma c =
    let word = c.args.word.now in
    let found : c.position.result ≡ position is_comma word = position_from_yields_List is_comma _ _ c.position.result c.position.ensures.ran (YieldsList-from_slice word c.iter.ensures.rest) (λ x b q k. search (rules, tests)) in
    let none : position is_comma word ≡ None = sym found ∙ c.in_err-comma.was in
    grind (arith, common_steps, none, rest_cut word)

pub returns-in_err-number : goal.returns-in_err-number
returns-in_err-number c =
    let word = c.args.word.now in
    let found : c.position.result ≡ position is_comma word = position_from_yields_List is_comma _ _ c.position.result c.position.ensures.ran (YieldsList-from_slice word c.iter.ensures.rest) (λ x b q k. search (rules, tests)) in
    let some : position is_comma word ≡ Some c.in_ok-comma.comma = sym found ∙ c.in_ok-comma.was in
    grind (arith, common_steps, some, rest_cut word, front_at word c.in_ok-comma.comma some)

pub returns : goal.returns
returns c =
    let word = c.args.word.now in
    let found : c.position.result ≡ position is_comma word = position_from_yields_List is_comma _ _ c.position.result c.position.ensures.ran (YieldsList-from_slice word c.iter.ensures.rest) (λ x b q k. search (rules, tests)) in
    let some : position is_comma word ≡ Some c.in_ok-comma.comma = sym found ∙ c.in_ok-comma.was in
    grind (arith, common_steps, some, rest_cut word, front_at word c.in_ok-comma.comma some)
