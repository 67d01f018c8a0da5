use Rattle.std.proofs.Common.{ℕ, take, ap, arith, length-take}
use Rattle.search.proofs.Backwards.{back_few}
use Rattle.seek.proofs.seek_back.seek_chunk_back.Goals as goal

pub returns-2-clause-within : goal.returns-2-clause-within
returns-2-clause-within g c =
    let b = g.S.Backward in
    omega (arith, ap (λ s. s.passed) c.seek_bytes_back.ensures, back_few (b.fore c.args.search.now) (b.back c.args.search.now) c.args.state (take c.min-to.result c.args.chunk.now) c.args.at, length-take {A = ℕ}, c.min-to.ensures)
