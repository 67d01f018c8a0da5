use Rattle.std.proofs.Common.{ℕ, List, ◌∷◌, ◌++◌, length, sym, ap, ◌∙◌, arith}
use Rattle.std.specs.ControlFlow.{continue_value}
use Rattle.measure.specs.Measure.{reading}
use Rattle.slots.specs.Sound.{chunks_in}
use Rattle.questions.proofs.Opening.{no_chunks, within, top}
use Rattle.questions.proofs.subtree.Subtree.parts.Goals as goal

pub returns-in_err-i : goal.returns-in_err-i
returns-in_err-i g c = rw c.from_residual.ensures (no_chunks c.args.self.leads (c.branch-i.ensures ∙ ap continue_value c.in_err-i.is))

pub bounds-slots-i : goal.bounds-slots-i
bounds-slots-i g c = (within c.args.self.leads (c.branch-i.ensures ∙ ap continue_value c.in_ok-i.is)).0

pub invariant_of-left : goal.invariant_of-left
invariant_of-left g c = record { leads = (top c.args.self.leads (c.branch-i.ensures ∙ ap continue_value c.in_ok-i.is) _ c.index-slots-i.is).left_leads }

pub invariant_of-right : goal.invariant_of-right
invariant_of-right g c = record { leads = (top c.args.self.leads (c.branch-i.ensures ∙ ap continue_value c.in_ok-i.is) _ c.index-slots-i.is).right_leads }

pub returns : goal.returns
returns g c =
    let t = top c.args.self.leads (c.branch-i.ensures ∙ ap continue_value c.in_ok-i.is) _ c.index-slots-i.is in
    let m = c.args.self.memory.now in
    let left = c.index-slots-i.result.node.left in
    let right = c.index-slots-i.result.node.right in
    let chunk-is = sym c.chunk.ensures in
    record {
      chunks = t.chunks ∙ ap (λ (l : List ℕ). chunks_in m left ++ (l ∷ chunks_in m right)) chunk-is;
      few = t.few;
      left_lower = t.left_lower;
      right_lower = t.right_lower;
      some_byte = omega (arith, ap length chunk-is, t.chunk_long, t.some_byte);
      few_bytes = omega (arith, ap length chunk-is, t.chunk_long, t.few_bytes);
      left_keeps = t.left_keeps;
      own_kept = λ μ k. t.own_kept μ k ∙ ap (reading μ) chunk-is;
      right_keeps = t.right_keeps;
    }
