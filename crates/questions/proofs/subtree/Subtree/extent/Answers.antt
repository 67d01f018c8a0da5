use Rattle.std.proofs.Common.{sym, ap, ◌∙◌, arith}
use Rattle.std.proofs.lemmas.List.{length-map}
use Rattle.std.proofs.lemmas.List.Elements.{All-from_recursion}
use Rattle.chunks.specs.Cut.{Chunk}
use Rattle.chunks.specs.Tree.{slots}
use Rattle.chunks.proofs.Footprint.{few_below}
use Rattle.slots.specs.declared.slot.Extent.{Extent}
use Rattle.slots.specs.Claim.{nothing}
use Rattle.slots.specs.View.{chunk_of, chunks_of}
use Rattle.slots.proofs.Chunked.{chunked}
use Rattle.slots.proofs.Holds.{balanced_held, low_held}
use Rattle.slots.proofs.Reading.{held_read}
use Rattle.slots.proofs.Rangewise.{text_short}
use Rattle.questions.specs.Under.{tree_under}
use Rattle.questions.proofs.subtree.Subtree.extent.Goals as goal

pub extent-requires : goal.extent-requires
extent-requires g c = let held = held_read _ _ c.args.self.leads in (held.roomy, (_, (held.root_is, held.holds)))

pub returns : goal.returns
returns g c =
    let s = c.args.self in
    let m = s.memory.now in
    let t = tree_under s in
    let held = held_read _ _ s.leads in
    let roomy = held.roomy in
    let is = c.extent.ensures _ held.root_is held.holds in
    let long = length-map (slots t) (chunk_of m) in
    let few = few_below m.usable (slots t) held.once in
    record {
      height = ap (λ (x : Extent). x.height) is;
      bytes = ap (λ (x : Extent). x.bytes) is;
      chunks = ap (λ (x : Extent). x.chunks) is ∙ sym long;
      balanced = balanced_held nothing m t held.holds;
      low = low_held nothing m roomy t held.holds held.once;
      usable = omega (arith, long, few);
      few = omega (arith, long, few, roomy.few);
      chunked = All-from_recursion Chunk (chunks_of m t) (chunked nothing m roomy t held.holds);
      short = text_short held;
    }
