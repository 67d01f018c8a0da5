use Rattle.std.proofs.Common.{◌≡◌, ap, sym, ◌∙◌, take, drop, rules, tests}
use Rattle.std.specs.List.{position, position_or_len}
use Rattle.std.proofs.lemmas.Iterator.{YieldsList-from_slice}
use Rattle.std.proofs.lemmas.Iterator.Search.{position_from_yields_List}
use Rattle.notation.specs.Words.{is_blank}
use Rattle.notation.proofs.Cuts.{place_or_end, front_word_cut, front_rest_cut}
use Rattle.notation.proofs.words.split_front.Goals as goal
use Rattle.notation.proofs.words.split_front.Goals.{After-split_at}

end_is : (c : After-split_at) → c.unwrap_or-end.result ≡ position_or_len is_blank c.args.line.now
end_is c =
    let found : c.position.result ≡ position is_blank c.args.line.now = position_from_yields_List is_blank _ _ c.position.result c.position.ensures.ran (YieldsList-from_slice c.args.line.now c.iter.ensures.rest) (λ x b q k. search (rules, tests)) in
    c.unwrap_or-end.ensures ∙ place_or_end is_blank c.args.line.now c.position.result found

pub returns-clause-word : goal.returns-clause-word
returns-clause-word c = c.split_at.ensures.front ∙ ap (λ n. take n c.args.line.now) (end_is c) ∙ sym (front_word_cut c.args.line.now)

pub returns-clause-rest : goal.returns-clause-rest
returns-clause-rest c = c.split_at.ensures.back ∙ ap (λ n. drop n c.args.line.now) (end_is c) ∙ sym (front_rest_cut c.args.line.now)
