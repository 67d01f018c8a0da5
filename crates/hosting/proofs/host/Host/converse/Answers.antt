use Rattle.std.proofs.Common.{◌≡◌, ◌&&◌, is_ok, refl, ap, ◌∙◌, arith, subst, rules}
use Rattle.document.specs.Snapshot.{seen}
use Rattle.session.specs.Request.{request_of}
use Rattle.session.specs.Asked.{meaning}
use Rattle.hosting.specs.Replies.{host_scale}
use Rattle.hosting.specs.Conversing.{ReadsNext}
use Rattle.hosting.proofs.Conversing.{begins, goes_on, ends, runs_out, same_read}
use Rattle.hosting.proofs.host.Host.converse.Goals.{else-loop-number-test, then-loop-number-test+in_ok-read_line+then-not-branch}
use Rattle.hosting.proofs.host.Host.converse.Goals as goal

pub loop-number-init : goal.loop-number-init
loop-number-init g c =
    let a = g.G.Grammar.meaning c.args.self.now.meter.now.first.grammar in
    let μ = host_scale g.G.Grammar.meaning c.args.self.now.meter.now in
    let here = seen c.args.document.now c.args.desk.now in
    ((refl, (refl, refl)), λ keeps. (keeps, begins a μ (g.R.Read.remaining c.args.lines.now) (g.W.Write.contents c.args.out.now) here))

pub loop-number-preserved : goal.loop-number-preserved
loop-number-preserved g c =
    let a = g.G.Grammar.meaning c.args.self.now.meter.now.first.grammar in
    let μ = host_scale g.G.Grammar.meaning c.args.self.now.meter.now in
    let (same, so_far) = c.loop-number.invariant in
    let left = g.R.Read.remaining c.loop-number.lines in
    let others = g.R.Read.remaining c.read_line.new.lines in
    let line = c.read_line.new.line.items in
    let next = subst (λ b. ReadsNext b left others line) c.if-not-branch.false c.in_ok-read_line.ensures in
    let read : meaning c.in_ok-read.read ≡ request_of line = c.in_ok-read.ensures ∙ ap request_of c.deref.ensures.value in
    let readable : c.is_ok.result ≡ is_ok (request_of line) = c.is_ok.ensures.value ∙ same_read c.in_ok-read.read ∙ ap is_ok read in
    let before = seen c.args.document.now c.args.desk.now in
    let here = seen c.loop-number.document c.loop-number.desk in
    let after = seen c.answer_line.new.document c.answer_line.new.desk in
    let told = c.in_ok-answer_line.ensures in
    let still = told.lent in (
      (still.0 ∙ same.0, (still.1.0 ∙ same.1.0, still.1.1 ∙ same.1.1)),
      λ keeps.
          let so = so_far keeps in (
            told.keeps so.0,
            goes_on a μ _ left _ _ before here _ _ so.1 others _ after line next _ _ refl read (told.answers so.0) _ _ (search rules) (ap (λ b. c.loop-number.readable && b) readable),
          ),
    )

pub returns-clause-conversed : goal.returns-clause-conversed
returns-clause-conversed g c keeps =
    let a = g.G.Grammar.meaning c.args.self.now.meter.now.first.grammar in
    let μ = host_scale g.G.Grammar.meaning c.args.self.now.meter.now in
    let left = g.R.Read.remaining c.loop-number.lines in
    let (same, so_far) = c.loop-number.invariant in
    let so = so_far keeps in
    let before = seen c.args.document.now c.args.desk.now in
    let here = seen c.loop-number.document c.loop-number.desk in
    elim c.loop-number-test.branch [
      | else-loop-number-test w ↦ runs_out a μ _ left _ _ before here _ _ so.1 (omega (arith, w.loop-number-test.false, c.loop-number.auto.number-end))
      | then-loop-number-test+in_ok-read_line+then-not-branch w ↦ ends a μ _ left _ _ before here _ _ so.1
          (subst (λ b. ReadsNext b left (g.R.Read.remaining w.read_line.new.lines) w.read_line.new.line.items) w.if-not-branch.true w.in_ok-read_line.ensures)
          (omega (arith, w.loop-number-test.true))
    ]
