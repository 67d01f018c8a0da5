use Rattle.std.proofs.Common.{Some, None}
use Rattle.std.proofs.lemmas.Slice.Eq.{strip_prefix_is}
use Rattle.std.proofs.lemmas.Bool.Decides.{Decides-eqb}
use Rattle.questions.specs.Spans.{within}
use Rattle.questions.specs.Stripped.{Stripped}
use Rattle.questions.specs.Under.{text_under}
use Rattle.questions.proofs.Cutting.{range_parts}
use Rattle.questions.proofs.Stripping.{first_missing, first_stripped}
use Rattle.questions.proofs.subtree.Subtree.+strip.Goals as goal

pub strip_parts-returns-in_err-behind_left : goal.strip_parts-returns-in_err-behind_left
strip_parts-returns-in_err-behind_left g t c =
    rw (c.from_residual.ensures, range_parts c.in-Some.ensures c.args.span _ _ c.cut.ensures.own c.cut.ensures.rest)
    (first_missing _ _ c.args.given.now c.in_err-behind_left.ensures)

pub strip_parts-returns-in_err-behind_own : goal.strip_parts-returns-in_err-behind_own
strip_parts-returns-in_err-behind_own g t c =
    let given = c.in_ok-behind_left.behind_left in
    let own = within c.cut.result.0 c.in-Some.parts.chunk.now in
    let rest = within c.cut.result.1 (text_under c.in-Some.parts.right) in
    let missing : Stripped own given.now None = rw (← c.within.ensures) (strip_prefix_is Decides-eqb given.now c.within.result.now None c.in_err-behind_own.ensures.cases) in
    rw (c.from_residual-in_err-behind_own.ensures, range_parts c.in-Some.ensures c.args.span _ _ c.cut.ensures.own c.cut.ensures.rest)
    (first_stripped _ _ c.args.given.now given c.in_ok-behind_left.ensures None (first_missing own rest given.now missing))

pub strip_parts-returns : goal.strip_parts-returns
strip_parts-returns g t c =
    let given = c.in_ok-behind_left.behind_left in
    let behind = c.in_ok-behind_own.behind_own in
    let own = within c.cut.result.0 c.in-Some.parts.chunk.now in
    let rest = within c.cut.result.1 (text_under c.in-Some.parts.right) in
    let there : Stripped own given.now (Some behind) = rw (← c.within.ensures) (strip_prefix_is Decides-eqb given.now c.within.result.now (Some behind) c.in_ok-behind_own.ensures.cases) in
    rw (range_parts c.in-Some.ensures c.args.span _ _ c.cut.ensures.own c.cut.ensures.rest)
    (first_stripped _ _ c.args.given.now given c.in_ok-behind_left.ensures _ (first_stripped own rest given.now behind there _ c.strip-2.ensures))
