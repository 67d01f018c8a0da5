use Rattle.std.proofs.Common.{ap, ◌∙◌}
use Rattle.std.specs.ControlFlow.{continue_value}
use Rattle.questions.proofs.Opening.{no_chunks, within, top_kept}
use Rattle.questions.proofs.subtree.Subtree.kept.Goals as goal

pub returns-in_err-i : goal.returns-in_err-i
returns-in_err-i g c = rw c.from_residual.ensures (no_chunks c.args.self.leads (c.branch-i.ensures ∙ ap continue_value c.in_err-i.is))

pub bounds-readings-i : goal.bounds-readings-i
bounds-readings-i g c = (within c.args.self.leads (c.branch-i.ensures ∙ ap continue_value c.in_ok-i.is)).1

pub returns : goal.returns
returns g c = top_kept c.args.self.leads (c.branch-i.ensures ∙ ap continue_value c.in_ok-i.is) _ c.index-readings-i.is
