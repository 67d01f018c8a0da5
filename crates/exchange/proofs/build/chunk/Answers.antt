use Rattle.std.proofs.Common.{◌≡◌, ◌-◌, length, take, drop, ap, ◌∙◌, add-one, arith}
use Rattle.chunks.specs.Cut.{begin, share}
use Rattle.chunks.proofs.Cut.{begin_more}
use Rattle.exchange.proofs.build.chunk.Goals as goal
use Rattle.exchange.proofs.build.chunk.Goals.{After-begin-to}

pub returns : goal.returns
returns c =
    let j = length c.args.bytes.now in
    let q = c.args.count in
    let k = c.args.k in
    let long : c.begin-to.result - c.begin-from.result ≡ share j q k = omega (arith, begin_more j q k, ap (begin j q) (add-one k)) in
    ap (λ n. take n (drop c.begin-from.result c.args.bytes.now)) long ∙ ap (λ n. take (share j q k) (drop n c.args.bytes.now)) c.begin-from.ensures
