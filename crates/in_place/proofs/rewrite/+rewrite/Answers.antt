use Rattle.std.proofs.Common.{◌+◌, ◌<◌, ◌≤◌, ◌⊎◌, ◌∷◌, length, sym, refl, ap, ◌∙◌, subst, arith}
use Rattle.std.proofs.lemmas.List.{length-append}
use Rattle.chunks.specs.Tree.{Tree, slots}
use Rattle.slots.specs.declared.slot.Extent.{Extent}
use Rattle.slots.specs.Rewrite.{Rewritten}
use Rattle.slots.proofs.Splitting.{held_height, halves}
use Rattle.slots.proofs.Rewriting.{rewritten_not, own_ready, right_held, link_ready, rewritten_node}
use Rattle.in_place.proofs.rewrite.+rewrite.Goals as goal

pub returns-then-end-from : goal.returns-then-end-from
returns-then-end-from g t c tree held =
    let all = ap (λ (x : Extent). x.chunks) (c.extent-all.ensures tree (sym c.in-Some.is ∙ held.root_is) held.holds) in
    let q = c.args.cut.now.count in
    let from = c.args.from in
    let n = c.args.n in
    rewritten_not tree n c.args.cut.now.bytes.now q from (from + q) (subst (λ k. (n + k ≤ from) ⊎ ((from < n + k) × (from + q ≤ n))) all c.then-end-from.either)

pub extent-requires : goal.extent-requires
extent-requires g t c =
    let h = halves c.in-Some.is c.requires.held.1.0 c.child-left.ensures c.child-right.ensures in
    (h.top.roomy, (_, (h.left_held.root_is, h.left_held.holds)))

pub rewrite-requires : goal.rewrite-requires
rewrite-requires g t c κs within =
    let h = halves c.in-Some.is c.requires.held.1.0 c.child-left.ensures c.child-right.ensures in
    let bound = c.requires.held.1.1 in
    let long = ap (λ (z : Tree). length (slots z)) h.is ∙ length-append (slots h.l) (c.in-Some.i ∷ slots h.r) in
    let measured = c.decreases in
    (omega (arith, h.left_lower), (within.0, (within.1, ((_, (h.left_held, omega arith)), c.requires.few_chunks))))

pub renew-requires : goal.renew-requires
renew-requires g t c =
    let h = halves c.in-Some.is c.requires.held.1.0 c.child-left.ensures c.child-right.ensures in
    let own = own_ready h.top _ _ _ _ _ (c.rewrite.ensures _ h.left_held) in
    let far = c.requires.few_chunks in
    record { usable = (own.0, own.1.0); some_byte = own.1.1.0; few_bytes = own.1.1.1; few_chunks = omega arith }

pub rewrite-requires-2 : goal.rewrite-requires-2
rewrite-requires-2 g t c κs within =
    let h = halves c.in-Some.is c.requires.held.1.0 c.child-left.ensures c.child-right.ensures in
    let bound = c.requires.held.1.1 in
    let long = ap (λ (z : Tree). length (slots z)) h.is ∙ length-append (slots h.l) (c.in-Some.i ∷ slots h.r) in
    let at_long = ap (λ (x : Extent). x.chunks) (c.extent.ensures _ h.left_held.root_is h.left_held.holds) in
    let right = right_held h.top _ _ _ _ _ (c.rewrite.ensures _ h.left_held) _ c.renew.ensures _ h.right_held.root_is in
    let measured = c.decreases in
    (omega (arith, h.right_lower, held_height h.right_held, held_height right), (within.0, (within.1, ((_, (right, omega arith)), c.requires.few_chunks))))

pub link-requires : goal.link-requires
link-requires g t c =
    let h = halves c.in-Some.is c.requires.held.1.0 c.child-left.ensures c.child-right.ensures in
    let first = c.rewrite.ensures _ h.left_held in
    let third = c.rewrite-2.ensures _ (right_held h.top _ _ _ _ _ first _ c.renew.ensures _ h.right_held.root_is) in
    (_, (_, link_ready h.top _ _ _ _ _ first _ c.renew.ensures _ third _ _ h.left_held.root_is h.right_held.root_is))

pub returns : goal.returns
returns g t c tree held =
    let h = halves c.in-Some.is held c.child-left.ensures c.child-right.ensures in
    let μ = g.M.Meter.scale c.args.meter.now in
    let q = c.args.cut.now.count in
    let from = c.args.from in
    let bytes = c.args.cut.now.bytes.now in
    let at_long = ap (λ (x : Extent). x.chunks) (c.extent.ensures _ h.left_held.root_is h.left_held.holds) in
    let first = c.rewrite.ensures _ h.left_held in
    let third = c.rewrite-2.ensures _ (right_held h.top _ _ _ _ _ first _ c.renew.ensures _ h.right_held.root_is) in
    let ready = link_ready h.top _ _ _ _ _ first _ c.renew.ensures _ third _ _ h.left_held.root_is h.right_held.root_is in
    let linked = c.link.ensures _ _ ready.0 ready.1 in
    let done = rewritten_node h.top c.args.n bytes q from (from + q) first _ c.renew.ensures _ third (omega arith) refl linked in
    subst (λ (z : Tree). Rewritten μ c.args.memory.now z c.args.n bytes q from (from + q) c.link.new.memory) (sym h.is) done
