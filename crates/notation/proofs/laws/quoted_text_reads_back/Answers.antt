use Rattle.notation.proofs.ReadBack.{quoted_reads_back}
use Rattle.notation.proofs.laws.quoted_text_reads_back.Goals as goal

pub returns : goal.returns
returns c = quoted_reads_back
