use Rattle.session.proofs.LineBack.{edit_reads_back}
use Rattle.session.proofs.laws.edit_line_reads_back.Goals as goal

pub returns : goal.returns
returns c = edit_reads_back
