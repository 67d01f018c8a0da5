-- Every chunk of a tree that memory holds has 1 to 64 bytes.
use Rattle.std.proofs.Common.{sym, subst, arith}
use Rattle.std.specs.List.{AllByRecursion as All}
use Rattle.std.proofs.ByRecursion.{All-append}
use Rattle.chunks.specs.Tree.{Tree, leaf, node}
use Rattle.chunks.specs.Cut.{Chunk}
use Rattle.slots.specs.declared.memory.Memory.{Memory}
use Rattle.slots.specs.Claim.{Claim}
use Rattle.slots.specs.View.{chunk_of, chunks_of, Roomy}
use Rattle.slots.specs.Holds.{Holds}
use Rattle.slots.proofs.Text.{chunks_node, chunk_length}

pub chunked : {R : Type 0} (w : Claim R) (m : Memory R) → Roomy m → (t : Tree) → Holds w m t → All Chunk (chunks_of m t)
chunked w m roomy leaf h = tt
chunked w m roomy (node l i r) (here, (hl, hr)) =
    let long = chunk_length m roomy i here.known here.few_bytes in
    let own : Chunk (chunk_of m i) = record { some_byte = omega (arith, long, here.some_byte); few_bytes = omega (arith, long, here.few_bytes) } in
    subst (All Chunk) (sym (chunks_node m l i r)) (All-append Chunk (chunks_of m l) _ (chunked w m roomy l hl) (own, chunked w m roomy r hr))
