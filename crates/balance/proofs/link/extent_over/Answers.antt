use Rattle.std.proofs.Common.{◌+◌, ◌≤◌, get_or, arith}
use Rattle.slots.proofs.Text.{size_read}
use Rattle.slots.proofs.Linking.{over_fits, extent_over}
use Rattle.balance.proofs.link.extent_over.Given as given
use Rattle.balance.proofs.link.extent_over.Goals as goal
use Rattle.balance.proofs.link.extent_over.Goals.{After-max}

-- What the slot makes with both trees can be counted.
fits : (g : given.Over) (c : goal.After-max g) →
    (c.max.result ≤ 16) × ((c.extent-before.result.bytes + (get_or c.args.memory.now.slots.now c.args.i c.index-slots-i.result).size + c.extent-behind.result.bytes ≤ 262144) × (c.extent-before.result.chunks + 1 + c.extent-behind.result.chunks ≤ 4096))
fits g c =
    let m = c.args.memory.now in
    let ready = c.requires.1.1 in
    let before = c.extent-before.ensures _ ready.near_root ready.near_holds in
    let behind = c.extent-behind.ensures _ ready.far_root ready.far_holds in
    let size = size_read m ready.roomy c.args.i ready.known c.index-slots-i.result in
    over_fits ready _ size _ _ before behind c.max.result c.max.ensures

pub overflow_add-result : goal.overflow_add-result
overflow_add-result g c = omega (arith, fits g c)

pub overflow_add-result-2 : goal.overflow_add-result-2
overflow_add-result-2 g c = omega (arith, fits g (goal.at.overflow_add-result-2 g c).After-max)

pub overflow_add-result-3 : goal.overflow_add-result-3
overflow_add-result-3 g c = omega (arith, fits g (goal.at.overflow_add-result-3 g c).After-max)

pub overflow_add-result-4 : goal.overflow_add-result-4
overflow_add-result-4 g c = omega (arith, fits g (goal.at.overflow_add-result-4 g c).After-max)

pub overflow_add-result-5 : goal.overflow_add-result-5
overflow_add-result-5 g c = omega (arith, fits g (goal.at.overflow_add-result-5 g c).After-max)

pub returns : goal.returns
returns g c l r ready =
    let m = c.args.memory.now in
    let before = c.extent-before.ensures _ ready.near_root ready.near_holds in
    let behind = c.extent-behind.ensures _ ready.far_root ready.far_holds in
    let size = size_read m ready.roomy c.args.i ready.known c.index-slots-i.result in
    extent_over ready _ size _ _ before behind c.max.result c.max.ensures
