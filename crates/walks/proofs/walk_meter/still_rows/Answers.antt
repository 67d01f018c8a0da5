use Rattle.std.proofs.Common.{rules, tests}
use Rattle.measure.specs.Walk.{still}
use Rattle.measure.proofs.Rows.{rows_all}
use Rattle.walks.proofs.walk_meter.still_rows.Goals as goal

pub returns : goal.returns
returns c =
    let made = c.from_fn.ensures.items in
    rows_all still c.from_fn.result (still 0) made.long (λ s h. let called = (made.at s (still 0) h).2 in search (rules, tests))
