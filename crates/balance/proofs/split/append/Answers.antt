use Rattle.std.proofs.Common.{◌≡◌, suc, ◌-◌, length, sym, ap, ◌∙◌, arith}
use Rattle.chunks.specs.Tree.{Tree, root, slots}
use Rattle.slots.specs.declared.slot.Extent.{Extent}
use Rattle.slots.specs.Split.{Apart, Halved}
use Rattle.slots.proofs.Splitting.{held_first, last_some, append_ready, append_joined}
use Rattle.balance.proofs.split.append.Given as given
use Rattle.balance.proofs.split.append.Goals as goal
use Rattle.balance.proofs.split.append.Goals.{After-split-front}

-- The last slot is cut off from the others.
cut_off : (g : given.Over) (c : goal.After-split-front g) (a b : Tree) → Apart c.args.memory.now c.args.first a c.args.rest b →
    (suc (c.extent-count.result.chunks - 1) ≡ length (slots a)) × ((f : Tree) × ((z : Tree) × ((c.split-front.result.0 ≡ root f) × ((c.split-front.result.1 ≡ root z) × Halved (g.M.Meter.scale c.args.meter.now) c.args.memory.now a (c.extent-count.result.chunks - 1) c.split-front.new.memory f z))))
cut_off g c a b apart =
    let count = ap (λ (x : Extent). x.chunks) (c.extent-count.ensures a apart.first_root apart.first_holds) in
    (omega arith, c.split-front.ensures a (held_first apart))

pub join-requires : goal.join-requires
join-requires g c =
    let apart = c.requires.1.1 in
    let p = cut_off g (goal.at.join-requires g c).After-split-front _ _ apart in
    let made = p.1 in
    (made.0, (c.requires.1.0, append_ready apart _ p.0 made.1.1.1.1 _ (sym c.unwrap.ensures ∙ made.1.1.1.0) _ made.1.1.0))

pub unwrap-requires : goal.unwrap-requires
unwrap-requires g c =
    let apart = c.requires.1.1 in
    let p = cut_off g (goal.at.unwrap-requires g c).After-split-front _ _ apart in
    last_some apart _ p.0 p.1.1.1.1.1 _ p.1.1.1.1.0

pub returns : goal.returns
returns g c a b apart =
    let p = cut_off g (goal.at.returns g c).After-split-front a b apart in
    let made = p.1 in
    let top = sym c.unwrap.ensures ∙ made.1.1.1.0 in
    let done = c.join.ensures made.0 b (append_ready apart _ p.0 made.1.1.1.1 _ top _ made.1.1.0) in
    (done.0, (done.1.0, append_joined apart _ p.0 made.1.1.1.1 _ top done.1.1))
