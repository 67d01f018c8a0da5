use Rattle.std.proofs.Common.{◌≡◌, ◌+◌, ◌-◌, ◌≤◌, ◌++◌, length, take, drop, sym, refl, ap, ◌∙◌, arith}
use borrow.Rule.Slice.PartMut.{put_mid, same_len_mid}
use Rattle.std.specs.List.{between}
use Rattle.std.proofs.lemmas.List.Edits.{length-between}
use Rattle.std.proofs.lemmas.List.{take_rest, length-append, length-drop, length-take-le}
use Rattle.editing.specs.Content.{text_in}
use Rattle.editing.proofs.Applying.{three_parts, copied_front}
use Rattle.editing.proofs.apply.fill_middle.Goals as goal

pub returns-clause-is : goal.returns-clause-is
returns-clause-is g c =
    let T = c.args.tree.now in
    let text = text_in T in
    let run = c.args.run in
    let from = c.args.from in
    let to = c.args.to in
    let new = c.args.bytes.now in
    let out = c.args.out.now in
    let head = between run.start from text in
    let tail = between to run.end text in
    let h = from - run.start in
    let m = length new in
    let inner : from ≤ length text = omega (arith, c.requires.forward, c.requires.behind, c.requires.within) in
    let room : h + (m + (run.end - to)) ≤ length out = omega (arith, c.requires.room) in
    let long-head : length head ≡ h = length-between text run.start from inner in
    let long-tail : length tail ≡ run.end - to = length-between text to run.end c.requires.within in
    let one = c.copy.new.out in
    let first : one ≡ head ++ drop h out = copied_front T run.start from out one _ c.copy.ensures.done c.copy.ensures.copied c.requires.before inner (omega arith) in
    let gap : h + m - h ≡ m = omega arith in
    let two = put_mid h (h + m - h) one c.copy_from_slice.new.self in
    let second : two ≡ put_mid h m one new = ap (λ n. put_mid h n one c.copy_from_slice.new.self) gap ∙ ap (put_mid h m one) c.copy_from_slice.ensures.after in
    let rest : between (h + m) (length two) two ≡ drop (h + m) two = take_rest two (h + m) in
    let long-one : length one ≡ length out = ap length first ∙ length-append head (drop h out) ∙ omega (arith, long-head, length-drop h out) in
    let long-two : length two ≡ length out = ap length second ∙ same_len_mid h m one new (sym (length-take-le m (drop h one) (omega (arith, length-drop h one)))) ∙ long-one in
    let part = c.copy-2.new.out in
    let third : part ≡ tail ++ drop (length tail) (drop (h + m) two) =
    copied_front T to run.end (between (h + m) (length two) two) part _ c.copy-2.ensures.done c.copy-2.ensures.copied c.requires.behind c.requires.within (omega (arith, ap length rest, length-drop (h + m) two))
    ∙ ap (λ l. tail ++ drop (run.end - to) l) rest ∙ ap (λ n. tail ++ drop n (drop (h + m) two)) (sym long-tail) in
    ap (λ n. take (h + m + n) (put_mid (h + m) (length two - (h + m)) two part)) (sym long-tail) ∙ three_parts out head new tail one h m long-head refl (omega arith) first two part second third _ _ refl
