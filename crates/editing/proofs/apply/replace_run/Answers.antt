use Rattle.std.proofs.Common.{◌≡◌, ◌-◌, take, ap, ◌∙◌, arith}
use Rattle.std.proofs.lemmas.Bool.{cond-true}
use Rattle.chunks.specs.Cut.{cut, replaced}
use Rattle.model.specs.Edit.{middle}
use Rattle.tree.specs.Public.{chunks_now}
use Rattle.editing.specs.Content.{text_in}
use Rattle.editing.proofs.Applying.{covers, can_replace, replaced_is}
use Rattle.editing.proofs.apply.replace_run.Goals as goal

pub fill_middle-length-requires-clause-before : goal.fill_middle-length-requires-clause-before
fill_middle-length-requires-clause-before g c = (covers c.args.tree.now c.args.from c.args.to c.args.bytes.now c.requires.allowed c.args.run c.requires.is).before

pub fill_middle-length-requires-clause-behind : goal.fill_middle-length-requires-clause-behind
fill_middle-length-requires-clause-behind g c = (covers c.args.tree.now c.args.from c.args.to c.args.bytes.now c.requires.allowed c.args.run c.requires.is).behind

pub fill_middle-length-requires-clause-within : goal.fill_middle-length-requires-clause-within
fill_middle-length-requires-clause-within g c = (covers c.args.tree.now c.args.from c.args.to c.args.bytes.now c.requires.allowed c.args.run c.requires.is).within

pub returns-clause-chunks : goal.returns-clause-chunks
returns-clause-chunks g c =
    let T = c.args.tree.now in
    let run = c.args.run in
    let new = c.args.bytes.now in
    let n = c.fill_middle-length.result in
    let out = c.fill_middle-length.new.out in
    let same : n - 0 ≡ n = omega arith in
    let is : take (n - 0) out ≡ middle (text_in T) run c.args.from c.args.to new = ap (λ k. take k out) same ∙ c.fill_middle-length.ensures.is in
    let can = can_replace T c.args.from c.args.to new c.requires.allowed run c.requires.is (take (n - 0) out) is in
    c.replace.ensures.chunks ∙ cond-true _ (replaced run.first run.last (cut (take (n - 0) out)) (chunks_now T)) (chunks_now T) (c.replace.ensures.done ∙ can)
    ∙ replaced_is T c.args.from c.args.to new c.requires.allowed run c.requires.is (take (n - 0) out) is
