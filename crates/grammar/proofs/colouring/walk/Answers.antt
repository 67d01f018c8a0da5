use Rattle.std.proofs.Common.{◌≡◌, [], ◌∷◌, refl, subst, rules}
use Rattle.std.proofs.lemmas.Fn.{fold_over, slice_gives, fronts}
use Rattle.automaton.specs.Walk.{walk}
use Rattle.automaton.proofs.Walk.{walk_append}
use Rattle.grammar.proofs.colouring.walk.Goals as goal

pub returns : goal.returns
returns g c =
    let a = g.G.Grammar.meaning c.args.grammar.now in
    let s = c.args.state in
    subst (λ bytes. c.fold.result ≡ walk a s bytes) c.iter.ensures.rest
    (fold_over fronts (λ y. y.now) _ (λ bytes r. r ≡ walk a s bytes) _ (λ bytes r b r' f' j k. let more = walk_append a s bytes (b.now ∷ []) in search rules) _ _ _ _ (slice_gives c.iter.result) refl c.fold.ensures.ran)
