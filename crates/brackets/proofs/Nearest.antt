-- A partner is the nearest place that is level.
use Rattle.std.proofs.Common.{◌≡◌, ℕ, ◌+◌, ◌-◌, length, List, Some, None, Option, sym, refl, ap, subst, arith}
use Rattle.automaton.specs.Automaton.{Automaton}
use Rattle.search.proofs.Places.{least_found, least_missed, greatest_found, greatest_missed}
use Rattle.brackets.specs.Partner.{level, partner_ahead, partner_behind, told, partner_by}
use Rattle.brackets.specs.Laws.{NearestAhead, NearestBehind, PartnersAreNearest}

module _ (a : Automaton) (text : List ℕ) (p : ℕ) where
  ahead : (o : Option ℕ) → partner_ahead a text p ≡ o → NearestAhead a text p (told a text p o)
  ahead None e = λ q k l. least_missed (level a text p) (length text - (p + 1)) (p + 1) e q (omega arith) (omega arith)
  ahead (Some x) e =
      let found = least_found (level a text p) (length text - (p + 1)) (p + 1) x e in
      record {
        above = omega (arith, found.behind);
        within = omega (arith, found.behind, found.within);
        levelled = found.right;
        nearest = λ q k l. found.first q (omega arith) l;
        kinds = refl;
      }

  behind : (o : Option ℕ) → partner_behind a text p ≡ o → NearestBehind a text p (told a text p o)
  behind None e = λ q l. greatest_missed (λ q. level a text q p) p e q l
  behind (Some x) e =
      let found = greatest_found (λ q. level a text q p) p x e in
      record { below = found.below; levelled = found.right; nearest = λ q k l. found.last q k l; kinds = refl }

pub partners_are_nearest : PartnersAreNearest
partners_are_nearest = record {
  openings = λ a text p kind e. subst (NearestAhead a text p) (sym (ap (λ r. partner_by a text r p) e)) (ahead a text p (partner_ahead a text p) refl);
  closings = λ a text p kind e. subst (NearestBehind a text p) (sym (ap (λ r. partner_by a text r p) e)) (behind a text p (partner_behind a text p) refl);
  others = λ a text p e. ap (λ r. partner_by a text r p) e;
}
