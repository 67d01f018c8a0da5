use Rattle.document.proofs.Waiting.{records_are_painted_edits}
use Rattle.document.proofs.laws.records_are_painted_edits.Goals as goal

pub returns : goal.returns
returns c = records_are_painted_edits
