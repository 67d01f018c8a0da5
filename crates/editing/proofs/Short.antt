-- A document's text is short enough to be counted.
use Rattle.std.proofs.Common.{◌≤◌, length, arith}
use Rattle.chunks.specs.Tree.{slots}
use Rattle.chunks.proofs.Footprint.{few_below}
use Rattle.slots.specs.Claim.{nothing}
use Rattle.slots.specs.Sound.{tree_of}
use Rattle.slots.proofs.Holds.{short_held}
use Rattle.slots.proofs.Reading.{whole_sound}
use Rattle.tree.specs.declared.chunk_tree.ChunkTree.{ChunkTree}
use Rattle.editing.specs.Content.{text_in}

pub text_short : {R : Type 0} (T : ChunkTree R) → length (text_in T) ≤ 262144
text_short T =
    let whole = whole_sound T.memory T.root T.sound in
    let t = tree_of T.memory T.root in
    omega (arith, short_held nothing T.memory whole.roomy t whole.holds, few_below T.memory.usable (slots t) (λ j. omega (arith, whole.all j)), whole.roomy.few)
