use Rattle.hosting.proofs.RangeTold.{range_told}
use Rattle.hosting.proofs.laws.range_tells_its_text.Goals as goal

pub returns : goal.returns
returns c = range_told
