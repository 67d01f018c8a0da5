use Rattle.document.specs.Content.{Keeps}
use Rattle.document.specs.Snapshot.{seen, SameDesk}
use Rattle.hosting.specs.Replies.{host_scale}
use Rattle.hosting.proofs.Conversing.{Going}
use Rattle.hosting.proofs.host.Host.converse.Given as goal

-- The same memory is lent; where the readings were kept they are, and the lines so far did what they ask.
abbrev pub invariant-loop-number : goal.invariant-loop-number
invariant-loop-number g l =
    let a = g.G.Grammar.meaning l.self.meter.now.first.grammar in
    let μ = host_scale g.G.Grammar.meaning l.self.meter.now in
    SameDesk l.initial.desk l.desk
    × (Keeps l.initial.document μ → Keeps l.document μ × Going a μ (g.R.Read.remaining l.initial.lines) (g.R.Read.remaining l.lines) (g.W.Write.contents l.initial.out) (g.W.Write.contents l.out) (seen l.initial.document l.initial.desk) (seen l.document l.desk) l.number l.readable)
