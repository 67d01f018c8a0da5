use Rattle.std.proofs.Common.{◌≡◌, ◌++◌, drop, ap, arith}
use Rattle.std.proofs.lemmas.List.{length-take-le}
use Rattle.measure.specs.Walk.{entry_at, onward, through}
use Rattle.measure.proofs.Rows.{filled_all}
use Rattle.walks.proofs.walk_meter.join_rows.Goals as goal

pub returns : goal.returns
returns c =
    let left = c.args.left.now in
    let right = c.args.right.now.entries in
    let n = c.loop-entry.entry-index in
    let all = length-take-le c.args.count left (omega (arith, c.told-left)) in
    filled_all (onward left right) (entry_at left) n (c.loop-entry.entry-items ++ drop c.args.count left) (through c.args.count left right) c.loop-entry.invariant
    (λ s h. let e : n ≡ c.args.count = omega (arith, all) in ap (λ k. through k left right s) e)
