use Rattle.std.proofs.Common.{◌<◌, sym, subst}
use Rattle.automaton.specs.Region.{region_number}
use Rattle.automaton.proofs.Region.{region_found, region_goes_on, region_number_few}
use Rattle.layers.proofs.region_layer.RegionGrammar.read.Goals as goal

pub number_of-requires : goal.number_of-requires
number_of-requires g c =
    let below = g.G.Grammar.meaning c.args.self.now.below in
    let inner = g.H.Grammar.meaning c.args.self.now.inner in
    let found = region_found below inner c.args.state c.in-Some.at c.in-Some.ensures in
    let on = region_goes_on below inner (g.G.Grammar.lawful c.args.self.now.below) (g.H.Grammar.lawful c.args.self.now.inner) c.in-Some.at c.args.byte found.0 found.1 in
    subst (λ p. region_number below inner p < 64) (sym c.read_at-class.ensures.behind) (region_number_few below inner _ on found.1)
