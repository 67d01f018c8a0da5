use Rattle.std.proofs.Common.{ℕ, ◌-◌, length, take, drop, sym, ap, ◌∙◌, arith, length-take, length-drop}
use Rattle.search.specs.Forwards.{stop}
use Rattle.search.proofs.Forwards.{stops_at, stop_through}
use Rattle.seek.proofs.seek_tree.seek_chunk.Goals as goal

pub returns-clause-finds : goal.returns-clause-finds
returns-clause-finds g c is =
    let next = g.S.Forward.goes c.args.search.now in
    let chunk = c.args.chunk.now in
    c.ran_through.ensures ∙ sym (stop_through next c.args.at chunk c.in-Some.behind (c.in-Some.ensures chunk is)) ∙ ap (λ n. stop next c.args.at (drop n chunk)) (sym c.if-place-eq0.true)

pub returns-2-clause-within : goal.returns-2-clause-within
returns-2-clause-within g c =
    let chunk = c.args.chunk.now in
    let from = c.min-from.result in
    omega (arith, ap (λ s. s.passed) c.seek_bytes.ensures, (stops_at (g.S.Forward.goes c.args.search.now) c.args.at (take (length chunk - from) (drop from chunk))).within, length-take {A = ℕ}, length-drop {A = ℕ}, c.min-from.ensures)
