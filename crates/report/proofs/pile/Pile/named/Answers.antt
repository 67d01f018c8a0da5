use Rattle.std.proofs.Common.{◌≡◌, ◌≢◌, ap, ◌∙◌, rules, tests}
use Rattle.std.proofs.lemmas.Iterator.{YieldsList-from_slice, first_from_find}
use Rattle.std.proofs.lemmas.Iterator.Consumers.{YieldsList-from_copied}
use Rattle.report.specs.Piles.{pile_name}
use Rattle.report.specs.declared.pile.Pile.{Pile}
use Rattle.report.specs.declared.pile.TheConstants.{PILES}
use Rattle.report.proofs.Piles.{finds}
use Rattle.report.proofs.pile.Pile.named.Goals as goal

pub returns : goal.returns
returns c =
    let name = c.args.name.now in
    let all = ap (λ i. i.rest.now) c.copied.ensures.source ∙ c.iter.ensures.rest in
    finds name c.find.result _ (first_from_find {B = Pile} {v = λ p. p} _ _ c.find.result (λ p. pile_name p ≡ name) (λ p. pile_name p ≢ name) c.find.ensures.ran (YieldsList-from_copied (YieldsList-from_slice PILES all))
    (λ p q k. search (rules, tests)) (λ p q k. search (rules, tests))) (λ p k. k.0)
