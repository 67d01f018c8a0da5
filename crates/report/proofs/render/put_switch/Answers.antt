use Rattle.report.proofs.Palette.{palette_small}
use Rattle.report.proofs.render.put_switch.Goals as goal

pub put_escape-requires : goal.put_escape-requires
put_escape-requires c = palette_small c.args.class
