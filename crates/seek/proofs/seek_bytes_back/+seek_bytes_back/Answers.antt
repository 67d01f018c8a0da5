use Rattle.std.proofs.Common.{◌-◌, length, take, drop, ap, arith, length-take, length-drop}
use Rattle.search.proofs.Backwards.{back_few}
use Rattle.seek.proofs.seek_bytes_back.+seek_bytes_back.Goals as goal

pub overflow_add-behind : goal.overflow_add-behind
overflow_add-behind g t c =
    let b = g.S.Backward in
    let bytes = c.args.bytes.now in
    let rest = take (length bytes - 1) (drop 1 bytes) in
    let few = back_few (b.fore c.args.search.now) (b.back c.args.search.now) c.ahead.result rest c.args.at in
    omega (arith, ap (λ s. s.passed) c.seek_bytes_back-behind.ensures, few, length-take (length bytes - 1) (drop 1 bytes), length-drop 1 bytes)
