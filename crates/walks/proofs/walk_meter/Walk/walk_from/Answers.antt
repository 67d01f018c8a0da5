use Rattle.std.proofs.Common.{◌≡◌, ℕ, ◌+◌, ◌-◌, ◌≤◌, List, length, take, ap, ◌∙◌, arith}
use Rattle.std.proofs.lemmas.List.{length-take-le}
use Rattle.automaton.specs.Automaton.{Automaton}
use Rattle.automaton.specs.Walk.{walk}
use Rattle.automaton.proofs.Walk.{walk_more}
use Rattle.measure.specs.Unmatched.{opens, closes}
use Rattle.measure.specs.Walk.{entry}
use Rattle.measure.specs.declared.walk_reading.Entry.{Entry}
use Rattle.measure.proofs.Unmatched.{unmatched_few, closings_more, openings_more}
use Rattle.measure.proofs.Walk.{same_entry}
use Rattle.walks.proofs.walk_meter.Walk.walk_from.Goals as goal
use Rattle.walks.proofs.walk_meter.Walk.walk_from.Goals.{in-Plain, in-Opening, in-Closing, in-Closing-2}

-- What equal entries have in common.
parts : (e f : Entry) → e ≡ f → (e.end ≡ f.end) × (e.closings ≡ f.closings) × (e.openings ≡ f.openings)
parts e f same = (ap (λ (x : Entry). x.end) same, ap (λ (x : Entry). x.closings) same, ap (λ (x : Entry). x.openings) same)

-- As many brackets are unmatched as there are bytes so far, at most.
few : (a : Automaton) (s : ℕ) (bytes : List ℕ) (i : ℕ) (walked : Entry) → walked ≡ entry a s (take i bytes) → i ≤ length bytes → walked.closings + walked.openings ≤ i
few a s bytes i walked is within =
    let so_far = parts walked (entry a s (take i bytes)) is in
    omega (arith, so_far.1, so_far.2, unmatched_few a s (take i bytes), length-take-le i bytes within)

pub overflow_add-walked : goal.overflow_add-walked
overflow_add-walked g c = omega (arith, few (g.G.Grammar.meaning c.args.self.now.grammar) c.args.state c.args.bytes.now c.loop-byte.byte-index c.loop-byte.walked c.loop-byte.invariant (omega arith))

pub overflow_add-walked-in-Closing-2 : goal.overflow_add-walked-in-Closing-2
overflow_add-walked-in-Closing-2 g c = omega (arith, few (g.G.Grammar.meaning c.args.self.now.grammar) c.args.state c.args.bytes.now c.loop-byte.byte-index c.loop-byte.walked c.loop-byte.invariant (omega arith))

pub loop-byte-preserved : goal.loop-byte-preserved
loop-byte-preserved g c =
    let a = g.G.Grammar.meaning c.args.self.now.grammar in
    let s = c.args.state in
    let bytes = c.args.bytes.now in
    let i = c.loop-byte.byte-index in
    let r = c.role_of.result in
    let was = c.loop-byte.walked in
    let now = c.match-role_of.walked in
    let counts : (now.end ≡ c.read-read.result.behind) × (now.closings ≡ was.closings + (closes r - was.openings)) × (now.openings ≡ opens r + (was.openings - closes r)) =
    elim c.match-role_of.branch [
      | in-Plain w ↦ let o = ap opens w.in-Plain.is in let k = ap closes w.in-Plain.is in let p = parts _ _ w.walked-is in (p.0, omega (arith, p.1), omega (arith, p.2))
      | in-Opening w ↦ let o = ap opens w.in-Opening.is in let k = ap closes w.in-Opening.is in let p = parts _ _ w.walked-is in (p.0, omega (arith, p.1), omega (arith, p.2))
      | in-Closing w ↦ let o = ap opens w.in-Closing.is in let k = ap closes w.in-Closing.is in let p = parts _ _ w.walked-is in (p.0, omega (arith, p.1), omega (arith, p.2))
      | in-Closing-2 w ↦ let o = ap opens w.in-Closing-2.is in let k = ap closes w.in-Closing-2.is in let p = parts _ _ w.walked-is in (p.0, omega (arith, p.1), omega (arith, p.2))
    ] in
    let so_far = parts was (entry a s (take i bytes)) c.loop-byte.invariant in
    let state = so_far.0 in
    let closed = so_far.1 in
    let opened = so_far.2 in
    let stays = counts.0 in
    let part = c.role_of.ensures in
    let read = c.read-read.ensures.class in
    let next = c.read-read.ensures.behind in
    let walked = walk_more a s bytes i c.loop-byte-test.true in
    let more = closings_more a s bytes i c.loop-byte-test.true in
    let more' = openings_more a s bytes i c.loop-byte-test.true in
    let ends : c.read-read.result.behind ≡ walk a s (take (i + 1) bytes) = cc in
    same_entry (stays ∙ ends) (cc counts.1) (cc counts.2)
