use Rattle.std.proofs.Common.{◌≡◌, ◌++◌, get_or, sym, refl, ap, ◌∙◌, append_assoc, append-nil}
use Rattle.chunks.specs.Tree.{Tree}
use Rattle.slots.specs.Claim.{Claim, Says, Fair}
use Rattle.slots.specs.View.{chunk_of, text_of}
use Rattle.slots.specs.Holds.{Holds, Owned, Ready}
use Rattle.slots.proofs.Says.{says_join, says_same}
use Rattle.slots.proofs.Text.{text_node}
use Rattle.slots.proofs.Linking.{summed_at, none_text}
use Rattle.balance.proofs.link.reading_of.Given as given
use Rattle.balance.proofs.link.reading_of.Goals as goal
use Rattle.balance.proofs.link.reading_of.Goals.{Joined-left, in-Some, in-None}

-- The reading of what lies left and in the slot.
left_sum : (g : given.Over) (c : goal.Joined-left g) (l r : Tree) → Ready c.args.memory.now c.args.left l c.args.i c.args.right r → (w : Claim g.row.R.Denot) → Fair w (g.M.Meter.scale c.args.meter.now) → Holds w c.args.memory.now l → Owned w c.args.memory.now c.args.i →
    Says w c.match-left.front (text_of c.args.memory.now l ++ chunk_of c.args.memory.now c.args.i)
left_sum g c l r ready w fair hl owned =
    let m = c.args.memory.now in
    let μ = g.M.Meter.scale c.args.meter.now in
    let lawful = g.M.Meter.lawful c.args.meter.now in
    let own = owned.own c.index-slots-i.result in
    elim c.match-left.branch [
      | in-Some v ↦
          let made : v.join-front.result ≡ μ.join v.index-readings-l.result (get_or m.slots.now c.args.i c.index-slots-i.result).own = v.join-front.ensures in
          says_same w _ _ _ _ (sym (v.front-is ∙ made)) refl (says_join μ lawful w fair _ _ _ _ (summed_at m w l _ (sym v.in-Some.is ∙ ready.near_root) hl _ v.index-readings-l.is) own)
      | in-None v ↦ says_same w _ _ _ _ (sym v.front-is) (sym (ap (λ z. z ++ chunk_of m c.args.i) (none_text m w l (sym v.in-None.is ∙ ready.near_root)))) own
    ]

pub returns-in-Some-right : goal.returns-in-Some-right
returns-in-Some-right g c l r ready w fair hl hr owned =
    let m = c.args.memory.now in
    let μ = g.M.Meter.scale c.args.meter.now in
    let first = left_sum g (goal.at.returns-in-Some-right g c).Joined-left l r ready w fair hl owned in
    let right = summed_at m w r _ (sym c.in-Some-right.is ∙ ready.far_root) hr _ c.index-readings-r.is in
    let both = says_join μ (g.M.Meter.lawful c.args.meter.now) w fair _ _ _ _ first right in
    says_same w _ _ _ _ (sym c.join.ensures) (append_assoc (text_of m l) (chunk_of m c.args.i) (text_of m r) ∙ sym (text_node m l c.args.i r)) both

pub returns-in-None-right : goal.returns-in-None-right
returns-in-None-right g c l r ready w fair hl hr owned =
    let m = c.args.memory.now in
    let i = c.args.i in
    let first = left_sum g (goal.at.returns-in-None-right g c).Joined-left l r ready w fair hl owned in
    let none = none_text m w r (sym c.in-None-right.is ∙ ready.far_root) in
    says_same w _ _ _ _ refl (ap (λ z. text_of m l ++ z) (sym (append-nil (chunk_of m i)) ∙ ap (λ z. chunk_of m i ++ z) (sym none)) ∙ sym (text_node m l i r)) first
