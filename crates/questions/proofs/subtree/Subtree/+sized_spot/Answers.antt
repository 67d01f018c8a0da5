use Rattle.std.proofs.Common.{◌-◌, ◌∷◌, length, sym, ap, ◌∙◌, arith}
use Rattle.std.proofs.lemmas.List.{length-append}
use Rattle.chunks.specs.declared.sized_spot.SizedSpot.{SizedSpot}
use Rattle.chunks.proofs.SizedSpotting.{sized_left, sized_own, sized_right, sized_few}
use Rattle.questions.specs.Under.{chunks_under}
use Rattle.questions.proofs.subtree.Subtree.+sized_spot.Goals as goal

pub returns-then-place-before-clause-is : goal.returns-then-place-before-clause-is
returns-then-place-before-clause-is g t c =
    let p = c.in-Some.parts in
    rw (c.in-Some.ensures).chunks (c.sized_spot.ensures.is ∙ sym (sized_left (chunks_under p.left) p.chunk.now (chunks_under p.right) c.args.place (omega arith)))

pub returns-then-inside-own-clause-is : goal.returns-then-inside-own-clause-is
returns-then-inside-own-clause-is g t c =
    let p = c.in-Some.parts in
    let before = c.extent-before.ensures in
    rw ((c.in-Some.ensures).chunks, before.chunks, before.bytes)
    (sym (sized_own (chunks_under p.left) p.chunk.now (chunks_under p.right) c.args.place (omega arith) (omega arith)))

pub returns-clause-is : goal.returns-clause-is
returns-clause-is g t c =
    let p = c.in-Some.parts in
    let before = c.extent-before.ensures in
    rw ((c.in-Some.ensures).chunks, before.chunks)
    (sym (sized_right (chunks_under p.left) p.chunk.now (chunks_under p.right) c.args.place (omega arith) (omega arith) c.sized_spot-rest.result (rw (← before.bytes) c.sized_spot-rest.ensures.is)))

pub returns-clause-few : goal.returns-clause-few
returns-clause-few g t c =
    let p = c.in-Some.parts in
    let apart = c.in-Some.ensures in
    let rest = c.sized_spot-rest.ensures.is in
    let before = c.extent-before.ensures.chunks in
    let place = c.args.place - c.extent-before.result.bytes - length p.chunk.now in
    omega (
      arith,
      apart.few,
      ap length apart.chunks,
      length-append (chunks_under p.left) (p.chunk.now ∷ chunks_under p.right),
      ap (λ (s : SizedSpot). s.chunk) rest,
      sized_few (chunks_under p.right) place,
    )
