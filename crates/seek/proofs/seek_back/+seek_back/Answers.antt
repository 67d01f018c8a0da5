use Rattle.std.proofs.Common.{ℕ, ◌-◌, refl, ap, ◌∙◌, arith, length-take}
use Rattle.search.specs.Forwards.{shifted}
use Rattle.questions.specs.Under.{text_under}
use Rattle.seek.proofs.Ascent.{Right, right_sought, right_none, stopped_right, own_fits, stopped_own, found_all}
use Rattle.seek.proofs.seek_back.+seek_back.Given as given
use Rattle.seek.proofs.seek_back.+seek_back.Goals as goal
use Rattle.seek.proofs.seek_back.+seek_back.Goals.{Joined-beyond-gt0, then-beyond-gt0, else-beyond-gt0}

-- What the search came to on the right, where the place may lie in the slot's own chunk or before it.
right_found : (g : given.Over) (t : ℕ) (c : goal.Joined-beyond-gt0 g t) → let b = g.S.Backward in Right (b.fore c.args.search.now) (b.back c.args.search.now) (b.scale c.args.search.now) c.args.at c.in-Some-parts.ensures c.ahead_of_tree-inner.result c.saturating_sub-beyond.result c.if-beyond-gt0.rest
right_found g t c =
    let b = g.S.Backward in
    let fore = b.fore c.args.search.now in
    let back = b.back c.args.search.now in
    let μ = b.scale c.args.search.now in
    elim c.if-beyond-gt0.branch [
      | then-beyond-gt0 w ↦
          let sought = w.seek_back-rest.ensures in
          right_sought fore back μ c.args.at c.in-Some-parts.ensures c.ahead_of_tree-inner.result c.saturating_sub-beyond.result w.ahead_over-outer.result (λ k. w.ahead_over-outer.ensures c.in-Some-parts.parts.chunk.now k) w.seek_back-rest.result (record { within = sought.within; finds = sought.finds }) c.if-beyond-gt0.rest w.rest-is
      | else-beyond-gt0 w ↦ right_none fore back μ c.args.at c.in-Some-parts.ensures c.ahead_of_tree-inner.result c.saturating_sub-beyond.result (omega arith) c.if-beyond-gt0.rest (w.rest-is ∙ w.ran_through-rest.ensures)
    ]

pub returns-then-rest : goal.returns-then-rest
returns-then-rest g t c =
    let b = g.S.Backward in
    let inside = c.saturating_sub-within.ensures ∙ ap (λ n. c.args.place - n) c.bytes.ensures.is in
    let found = stopped_right (b.fore c.args.search.now) (b.back c.args.search.now) (b.scale c.args.search.now) c.args.state c.args.at c.in-Some-parts.ensures c.args.place _ _ inside c.saturating_sub-beyond.ensures c.ahead_of_tree-inner.result c.ahead_of_tree-inner.ensures c.if-beyond-gt0.rest (right_found g t (goal.at.returns-then-rest g t c).Joined-beyond-gt0) c.if-rest.true in
    record { within = found.within; finds = found.finds }

pub further-own-requires : goal.further-own-requires
further-own-requires g t c =
    let b = g.S.Backward in
    let inside = c.saturating_sub-within.ensures ∙ ap (λ n. c.args.place - n) c.bytes.ensures.is in
    let own = c.seek_chunk_back-inside.ensures in
    let fits = own_fits (b.fore c.args.search.now) (b.back c.args.search.now) (b.scale c.args.search.now) c.args.state c.args.at c.in-Some-parts.ensures c.args.place _ _ inside c.saturating_sub-beyond.ensures c.ahead_of_tree-inner.result c.ahead_of_tree-inner.ensures c.if-beyond-gt0.rest (right_found g t (goal.at.further-own-requires g t c).Joined-beyond-gt0) c.if-rest.false c.seek_chunk_back-inside.result (record { within = own.within; finds = own.finds }) in
    omega (arith, fits, length-take c.args.place (text_under c.args.tree), c.bytes-bytes.ensures.is, c.bytes-bytes.ensures.few)

pub returns-then-own : goal.returns-then-own
returns-then-own g t c =
    let b = g.S.Backward in
    let inside = c.saturating_sub-within.ensures ∙ ap (λ n. c.args.place - n) c.bytes.ensures.is in
    let own = c.seek_chunk_back-inside.ensures in
    let found = stopped_own (b.fore c.args.search.now) (b.back c.args.search.now) (b.scale c.args.search.now) c.args.state c.args.at c.in-Some-parts.ensures c.args.place _ _ inside c.saturating_sub-beyond.ensures c.ahead_of_tree-inner.result c.ahead_of_tree-inner.ensures c.if-beyond-gt0.rest (right_found g t (goal.at.returns-then-own g t c).Joined-beyond-gt0) c.if-rest.false c.seek_chunk_back-inside.result (record { within = own.within; finds = own.finds }) c.further-own.result c.further-own.ensures c.if-own.true in
    record { within = found.within; finds = found.finds }

pub further-requires : goal.further-requires
further-requires g t c =
    let b = g.S.Backward in
    let inside = c.saturating_sub-within.ensures ∙ ap (λ n. c.args.place - n) c.bytes.ensures.is in
    let own = c.seek_chunk_back-inside.ensures in
    let first = c.seek_back-first.ensures in
    let found = found_all (b.fore c.args.search.now) (b.back c.args.search.now) (b.scale c.args.search.now) c.args.state c.args.at c.in-Some-parts.ensures c.args.place _ _ inside c.saturating_sub-beyond.ensures c.ahead_of_tree-inner.result c.ahead_of_tree-inner.ensures c.if-beyond-gt0.rest (right_found g t (goal.at.further-requires g t c).Joined-beyond-gt0) c.if-rest.false c.seek_chunk_back-inside.result (record { within = own.within; finds = own.finds }) c.further-own.result c.further-own.ensures c.if-own.false c.seek_back-first.result (record { within = first.within; finds = first.finds }) (shifted c.further-own.result.passed c.seek_back-first.result) refl in
    omega (arith, found.within, length-take c.args.place (text_under c.args.tree), c.bytes-bytes.ensures.is, c.bytes-bytes.ensures.few)

pub returns-2 : goal.returns-2
returns-2 g t c =
    let b = g.S.Backward in
    let inside = c.saturating_sub-within.ensures ∙ ap (λ n. c.args.place - n) c.bytes.ensures.is in
    let own = c.seek_chunk_back-inside.ensures in
    let first = c.seek_back-first.ensures in
    let found = found_all (b.fore c.args.search.now) (b.back c.args.search.now) (b.scale c.args.search.now) c.args.state c.args.at c.in-Some-parts.ensures c.args.place _ _ inside c.saturating_sub-beyond.ensures c.ahead_of_tree-inner.result c.ahead_of_tree-inner.ensures c.if-beyond-gt0.rest (right_found g t (goal.at.returns-2 g t c).Joined-beyond-gt0) c.if-rest.false c.seek_chunk_back-inside.result (record { within = own.within; finds = own.finds }) c.further-own.result c.further-own.ensures c.if-own.false c.seek_back-first.result (record { within = first.within; finds = first.finds }) c.further.result c.further.ensures in
    record { within = found.within; finds = found.finds }
