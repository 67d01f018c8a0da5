use Rattle.std.proofs.Common.{◌≡◌, ◌+◌, ◌-◌, ◌*◌, length, refl, arith}
use Rattle.slots.proofs.Storing.{written}
use Rattle.exchange.proofs.store.write.Goals as goal

pub returns : goal.returns
returns g c =
    let i = c.args.i in
    let bytes = c.args.bytes.now in
    let same : 64 * i + length bytes - 64 * i ≡ length bytes = omega arith in
    written c.args.memory.now _ i _ bytes _ _ c.requires.usable.0 c.requires.usable.1 c.requires.fits.few_bytes refl c.copy_from_slice.ensures.after same refl refl refl refl refl
