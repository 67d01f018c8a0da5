use Rattle.session.proofs.ScriptBack.{script_reads_back}
use Rattle.session.proofs.laws.script_line_reads_back.Goals as goal

pub returns : goal.returns
returns c = script_reads_back
