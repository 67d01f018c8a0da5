use Rattle.std.proofs.Common.{[], None, sym, ◌∙◌, subst}
use Rattle.std.proofs.lemmas.List.{append-nil}
use Rattle.std.proofs.lemmas.Bool.{false≢true}
use Rattle.questions.specs.Spans.{within}
use Rattle.questions.specs.Stripped.{Stripped}
use Rattle.questions.specs.Under.{text_under}
use Rattle.questions.proofs.subtree.Subtree.same.Goals as goal

pub returns-in_default-2 : goal.returns-in_default-2
returns-in_default-2 g c =
    let bytes = within c.args.span (text_under c.args.self) in
    let missing : Stripped bytes c.args.given.now None = subst (Stripped bytes c.args.given.now) c.in_default.is c.strip.ensures in
    (λ e. absurd (false≢true e), λ is. absurd (missing [] (sym is ∙ sym (append-nil bytes))))
