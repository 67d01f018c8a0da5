use Rattle.positions.proofs.Lines.{positions_ascend}
use Rattle.positions.proofs.laws.positions_ascend.Goals as goal

pub returns : goal.returns
returns c = positions_ascend
