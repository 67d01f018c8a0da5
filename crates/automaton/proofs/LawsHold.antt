-- The laws of specs/Laws.antt.
use Rattle.std.proofs.Common.{◌≡◌, ℕ, zero, suc, ◌<◌, List, [], ◌∷◌, length, get_or, take, sym, refl, ◌∙◌, arith}
use Rattle.std.proofs.lemmas.List.{ext_get_or}
use Rattle.automaton.specs.Automaton.{Automaton}
use Rattle.automaton.specs.Walk.{walk, colours_from, colours}
use Rattle.automaton.specs.Laws.{WalkTakesEachStep, Shows, ColoursAloneShow, WalkCanBeCut, WalkStaysBelow, PilesAreLawful}
use Rattle.automaton.proofs.Walk.{walk_append, colours_append, colours_length, walk_more}
use Rattle.automaton.proofs.Words.{words_lawful}
use Rattle.automaton.proofs.Comment.{comment_lawful}
use Rattle.automaton.proofs.Quoted.{quoted_lawful}
use Rattle.automaton.proofs.Region.{region_lawful}

pub walk_takes_each_step : WalkTakesEachStep
walk_takes_each_step a text = (refl, λ i h. walk_more a 0 text i h)

pub walk_can_be_cut : WalkCanBeCut
walk_can_be_cut a s xs ys = (walk_append a s xs ys, colours_append a s xs ys)

pub walk_stays_below : WalkStaysBelow
walk_stays_below a lawful s [] h = h
walk_stays_below a lawful s (b ∷ bs) h = walk_stays_below a lawful (a.step s b) bs (lawful.step_below s b h)

-- the colour at each place, from any start state
colour_at : (a : Automaton) (s : ℕ) (bs : List ℕ) (i : ℕ) → i < length bs → get_or (colours_from a s bs) i 0 ≡ a.class (walk a s (take i bs)) (get_or bs i 0)
colour_at a s [] i h = absurd (omega arith)
colour_at a s (b ∷ bs) zero h = refl
colour_at a s (b ∷ bs) (suc i) h = colour_at a (a.step s b) bs i (omega arith)

pub colours_alone_show : ColoursAloneShow
colours_alone_show a text =
    let shows : Shows a text (colours a text) = record { long = colours_length a 0 text; each = λ i h. colour_at a 0 text i h } in
    (shows, λ cells h. ext_get_or 0 cells (colours a text) (h.long ∙ sym shows.long) (λ i l. let w : i < length text = omega (arith, h.long) in h.each i w ∙ sym (shows.each i w)))

pub piles_are_lawful : PilesAreLawful
piles_are_lawful = record { scene_words = words_lawful; comments = comment_lawful; strings = quoted_lawful; regions = region_lawful }
