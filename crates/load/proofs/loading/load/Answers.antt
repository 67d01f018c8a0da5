use Rattle.std.proofs.Common.{◌≡◌, ◌≤◌, length, Some, Result, Ok, Err, sym, ap, ◌∙◌, subst, arith}
use Rattle.std.specs.ControlFlow.{continue_value}
use Rattle.std.specs.Result.{result_ok}
use Rattle.std.specs.Slice.Iter.{chunks_rest}
use Rattle.std.proofs.lemmas.Grind.{common_steps}
use Rattle.std.proofs.lemmas.List.{length-map}
use Rattle.measure.specs.Blank.{blank_measure}
use Rattle.measure.specs.Measure.{reading}
use Rattle.measure.specs.Pair.{pair_measure}
use Rattle.measure.specs.Place.{place_measure}
use Rattle.measure.specs.Walk.{walk_measure}
use Rattle.chunks.specs.Tree.{slots}
use Rattle.chunks.specs.Cut.{joined}
use Rattle.slots.specs.View.{chunk_of}
use Rattle.slots.proofs.Ranges.{between_all}
use Rattle.tree.specs.Public.{tree_in, chunks_now}
use Rattle.report.specs.Summary.{summary}
use Rattle.report.proofs.Summarized.{summarized_is}
use Rattle.load.proofs.Piecewise.{SoFar, so_far_none, so_far_more, so_far_all, so_far_few}
use Rattle.load.proofs.loading.load.Goals as goal

-- What `ok` tells where it gives a value.
was_ok : {T E : Type 0} (r : Result T E) (x : T) → result_ok r ≡ Some x → r ≡ Ok x
was_ok (Ok y) x is = cc
was_ok (Err e) x is = cc

pub loop-piece-init : goal.loop-piece-init
loop-piece-init g c =
    let ok = was_ok c.prepare.result _ (sym c.ok.ensures.value ∙ c.branch-ok.ensures ∙ ap continue_value c.in_ok-ok.is) in
    let made = rw ok at c.prepare.ensures in
    let whole : chunks_rest c.into_iter-piece-iterator.result ≡ c.args.text.now = cc in
    record {
      pieces = cc;
      so_far = subst (SoFar c.args.text.now (chunks_rest c.into_iter-piece-iterator.result) c.args.usable) (sym made.chunks) (rw whole (so_far_none c.args.text.now c.args.usable));
      usable = made.usable;
      kept = made.keeps _;
    }

pub loop-piece-preserved : goal.loop-piece-preserved
loop-piece-preserved g c =
    let ok = was_ok c.replace.result _ (sym c.ok-in-loop-piece.ensures.value ∙ c.branch-ok-in-loop-piece.ensures ∙ ap continue_value c.in_ok-ok-2.is) in
    let done = rw ok at c.replace.ensures in
    let loop = c.loop-piece.invariant in
    let next = c.in-Some.ensures.steps in
    record {
      pieces = next.0 ∙ loop.pieces;
      so_far = so_far_more c.args.text.now (chunks_rest c.loop-piece.piece-iterator) (chunks_rest c.next.new.self) c.in-Some.piece.now c.args.usable c.chunks-end.result c.loop-piece.tree.memory.usable (chunks_now c.loop-piece.tree) loop.so_far next.1.0 (rw loop.pieces at next.1.1) next.1.2 c.chunks-end.ensures.is loop.usable _ done.chunks done.done;
      usable = done.size.usable ∙ loop.usable;
      kept = done.keeps loop.kept;
    }

pub returns : goal.returns
returns g c =
    let n = c.args.usable in
    let text = c.args.text.now in
    let grammar = c.document_meter-meter.result.first.grammar in
    let a = g.G.Grammar.meaning grammar in
    let tree = c.loop-piece.tree in
    let chunks = chunks_now tree in
    let so_far = c.loop-piece.invariant.so_far in
    let rest = chunks_rest c.loop-piece.piece-iterator in
    let all : length rest ≡ 0 = c.in-None.ensures.steps.1.0 in
    let whole = so_far_all text rest n chunks so_far all in
    let few = so_far_few text rest n chunks so_far all in
    let made = c.new-tree.ensures in
    let μ = pair_measure (walk_measure a) (pair_measure place_measure blank_measure) in
    let total : length (joined chunks) ≤ c.bytes-bytes.result = omega (arith, c.bytes-bytes.ensures.is) in
    let read : c.reading-reading.result ≡ reading μ text = c.reading-reading.ensures c.loop-piece.invariant.kept ∙ ap (reading μ) (between_all c.bytes-bytes.result (joined chunks) total ∙ whole) in (
      grind (arith, common_steps, few, so_far.enough),
      record {
        bytes_are = c.bytes-bytes.ensures.is ∙ ap length whole;
        chunks_are = c.chunks.ensures.is ∙ few;
        height_is = (tree_in tree, c.height.ensures.balanced, sym (length-map (slots (tree_in tree)) (chunk_of tree.memory)) ∙ sym c.chunks.ensures.is, sym c.height.ensures.is);
        low = c.height.ensures.low;
        summary_is = c.summarize.ensures ∙ summarized_is a text (g.G.Grammar.lawful grammar) blank_measure c.reading-reading.result read ∙ ap (λ x. summary (g.G.Grammar.meaning x) text) c.document_meter-meter.ensures.grammar;
      },
    )
