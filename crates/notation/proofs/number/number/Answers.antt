use Rattle.std.proofs.Common.{◌∙◌, ◌≡◌, sym, ap, arith, rules}
use Rattle.notation.proofs.Numbers.{number_from, so_far, number_ends}
use Rattle.notation.proofs.number.number.Goals as goal

pub returns : goal.returns
returns c =
    let ran = c.try_fold.ensures.ran in
    let kept = so_far _ (λ p b q k. search rules) ran.0 c.iter.result ran.4.0 _ _ (omega arith) ran.4.1 ran.5 in
    let is : c.try_fold.result ≡ number_from 0 c.args.word.now = number_ends ran.1 ran.4.0 _ ran.3 c.try_fold.result _ kept.1 ran.4.2 ran.6 (λ b k. search rules) ∙ sym kept.0 ∙ ap (number_from 0) c.iter.ensures.rest in
    search rules
