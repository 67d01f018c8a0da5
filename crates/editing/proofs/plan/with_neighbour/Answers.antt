use Rattle.std.proofs.Common.{arith}
use Rattle.tree.specs.Public.{chunks_now}
use Rattle.editing.proofs.Planning.{right_told, left_some, left_told}
use Rattle.editing.proofs.Short.{text_short}
use Rattle.editing.proofs.plan.with_neighbour.Goals as goal

pub overflow_add-result-then-run-chunks : goal.overflow_add-result-then-run-chunks
overflow_add-result-then-run-chunks g c =
    let told = (right_told (chunks_now c.args.tree.now) c.chunks.ensures.chunked c.args.run c.requires.is c.requires.ordered c.requires.known (omega arith) c.sized_spot-next.result c.sized_spot-next.ensures.is).end_within in
    omega (arith, text_short c.args.tree.now)

pub returns-then-run-chunks : goal.returns-then-run-chunks
returns-then-run-chunks g c =
    (right_told (chunks_now c.args.tree.now) c.chunks.ensures.chunked c.args.run c.requires.is c.requires.ordered c.requires.known (omega arith) c.sized_spot-next.result c.sized_spot-next.ensures.is).run_is

pub overflow_sub-run : goal.overflow_sub-run
overflow_sub-run g c = left_some (chunks_now c.args.tree.now) c.chunks.ensures.chunked c.args.run c.requires.is c.requires.ordered c.requires.known (omega arith)

pub overflow_sub-result-then-run-gt0 : goal.overflow_sub-result-then-run-gt0
overflow_sub-result-then-run-gt0 g c =
    (left_told (chunks_now c.args.tree.now) c.chunks.ensures.chunked c.args.run c.requires.is c.requires.ordered c.requires.known (omega arith) (omega arith) c.sized_spot-before.result c.sized_spot-before.ensures.is).size_before

pub returns-then-run-gt0 : goal.returns-then-run-gt0
returns-then-run-gt0 g c =
    (left_told (chunks_now c.args.tree.now) c.chunks.ensures.chunked c.args.run c.requires.is c.requires.ordered c.requires.known (omega arith) (omega arith) c.sized_spot-before.result c.sized_spot-before.ensures.is).run_is
