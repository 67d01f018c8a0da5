use Rattle.std.proofs.Common.{sym, ◌∙◌}
use Rattle.locate.proofs.Together.{apart_over_text}
use Rattle.locate.proofs.meeting.MeetingForward.pass.Goals as goal

pub returns : goal.returns
returns g c text e =
    let grammar = c.args.self.now.grammar.now in
    apart_over_text (g.G.Grammar.meaning grammar) (g.G.Grammar.lawful grammar) text c.in_ok-passage.passage.now (sym (c.in_ok-passage.ensures.value ∙ e)) c.args.at c.entry-old.result c.entry-new.result c.entry-old.ensures c.entry-new.ensures c.then_some.result c.then_some.ensures
