use Rattle.std.proofs.Common.{◌≡◌, not, ◌∙◌, rules, tests, arith}
use Rattle.std.specs.List.{position}
use Rattle.std.proofs.lemmas.Grind.{common_steps}
use Rattle.std.proofs.lemmas.Iterator.{YieldsList-from_slice}
use Rattle.std.proofs.lemmas.Iterator.Search.{position_from_yields_List}
use Rattle.notation.specs.Words.{is_blank}
use Rattle.notation.proofs.Cuts.{place_or_end, skipped_cut}
use Rattle.notation.proofs.words.skipped.Goals as goal

pub returns : goal.returns
returns c =
    let line = c.args.line.now in
    let found : c.position.result ≡ position (λ b. not (is_blank b)) line = position_from_yields_List (λ b. not (is_blank b)) _ _ c.position.result c.position.ensures.ran (YieldsList-from_slice line c.iter.ensures.rest) (λ x b q k. search (rules, tests)) in
    let start_is = c.unwrap_or-start.ensures ∙ place_or_end (λ b. not (is_blank b)) line c.position.result found in
    grind (arith, common_steps, start_is, skipped_cut line)
