use Rattle.scene.proofs.CallLines.{calls_told}
use Rattle.scene.proofs.help.calls.Goals as goal

pub returns : goal.returns
returns c = calls_told
