use Rattle.std.proofs.Common.{◌≡◌, ◌-◌, false, length, drop, sym, refl, ap, ◌∙◌, arith, length-drop}
use Rattle.search.specs.Forwards.{shifted}
use Rattle.search.proofs.Forwards.{stop_through}
use Rattle.questions.specs.Under.{text_under}
use Rattle.seek.proofs.Descent.{stopped_left, stopped_own, found_all}
use Rattle.seek.proofs.seek_tree.+seek.Goals as goal

pub returns-in-Some : goal.returns-in-Some
returns-in-Some g t c =
    let next = g.S.Forward.goes c.args.search.now in
    let place = c.args.place in
    let text = text_under c.args.tree in
    let behind = c.in-Some.behind in
    let left : c.bytes-bytes.result - place ≡ length (drop place text) = ap (λ n. n - place) c.bytes-bytes.ensures.is ∙ sym (length-drop place text) in
    record {
      within = omega (arith, left, ap (λ s. s.passed) c.ran_through-in-Some.ensures);
      finds = λ k.
          c.ran_through-in-Some.ensures
          ∙ ap (λ n. record { passed = n; at = behind; stopped = false }) left
          ∙ sym (stop_through next c.args.at (drop place text) behind (c.in-Some.ensures k));
    }

pub returns-then-first : goal.returns-then-first
returns-then-first g t c =
    let left = c.seek-first.ensures in
    let found = stopped_left (g.S.Forward.goes c.args.search.now) (g.S.Forward.scale c.args.search.now) c.args.at c.in-Some-parts.ensures c.args.place _ _ refl refl c.seek-first.result (record { within = left.within; finds = left.finds }) c.if-first.true in
    record { within = found.within; finds = found.finds }

pub returns-then-own : goal.returns-then-own
returns-then-own g t c =
    let left = c.seek-first.ensures in
    let own = c.seek_chunk-inside.ensures in
    let inside = c.saturating_sub-within.ensures ∙ ap (λ n. c.args.place - n) c.bytes.ensures.is in
    let found = stopped_own (g.S.Forward.goes c.args.search.now) (g.S.Forward.scale c.args.search.now) c.args.at c.in-Some-parts.ensures c.args.place _ _ inside refl c.seek-first.result (record { within = left.within; finds = left.finds }) c.if-first.false c.seek_chunk-inside.result (record { within = own.within; finds = own.finds }) c.further-own.result c.further-own.ensures c.if-own.true in
    record { within = found.within; finds = found.finds }

pub further-requires : goal.further-requires
further-requires g t c =
    let left = c.seek-first.ensures in
    let own = c.seek_chunk-inside.ensures in
    let inside = c.saturating_sub-within.ensures ∙ ap (λ n. c.args.place - n) c.bytes.ensures.is in
    let right = c.seek-rest.ensures in
    let found = found_all (g.S.Forward.goes c.args.search.now) (g.S.Forward.scale c.args.search.now) c.args.at c.in-Some-parts.ensures c.args.place _ _ inside c.saturating_sub-beyond.ensures c.seek-first.result (record { within = left.within; finds = left.finds }) c.if-first.false c.seek_chunk-inside.result (record { within = own.within; finds = own.finds }) c.further-own.result c.further-own.ensures c.if-own.false c.seek-rest.result (record { within = right.within; finds = right.finds }) (shifted c.further-own.result.passed c.seek-rest.result) refl in
    omega (arith, found.within, length-drop c.args.place (text_under c.args.tree), c.bytes-bytes.ensures.is, c.bytes-bytes.ensures.few)

pub returns : goal.returns
returns g t c =
    let left = c.seek-first.ensures in
    let own = c.seek_chunk-inside.ensures in
    let inside = c.saturating_sub-within.ensures ∙ ap (λ n. c.args.place - n) c.bytes.ensures.is in
    let right = c.seek-rest.ensures in
    let found = found_all (g.S.Forward.goes c.args.search.now) (g.S.Forward.scale c.args.search.now) c.args.at c.in-Some-parts.ensures c.args.place _ _ inside c.saturating_sub-beyond.ensures c.seek-first.result (record { within = left.within; finds = left.finds }) c.if-first.false c.seek_chunk-inside.result (record { within = own.within; finds = own.finds }) c.further-own.result c.further-own.ensures c.if-own.false c.seek-rest.result (record { within = right.within; finds = right.finds }) c.further.result c.further.ensures in
    record { within = found.within; finds = found.finds }
