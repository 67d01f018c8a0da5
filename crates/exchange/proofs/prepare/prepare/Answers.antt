use Rattle.std.proofs.Common.{sym, ap, ◌∙◌, subst, arith}
use Rattle.slots.proofs.Elsewhere.{roomy_elsewhere}
use Rattle.slots.specs.Claim.{kept}
use Rattle.slots.specs.View.{chunks_of}
use Rattle.slots.specs.Holds.{Holds}
use Rattle.slots.proofs.Reading.{tree_is, free_is, sound_whole}
use Rattle.slots.proofs.Preparing.{stack_more, whole_free}
use Rattle.exchange.proofs.prepare.prepare.Goals as goal

pub loop-i-preserved : goal.loop-i-preserved
loop-i-preserved g c =
    let inv = c.loop-i.invariant in
    let gave = c.give.ensures in
    record {
      roomy = roomy_elsewhere _ _ _ gave.elsewhere inv.roomy;
      usable = gave.elsewhere.usable ∙ inv.usable;
      stack = stack_more _ _ c.args.n c.loop-i.i (omega arith) (omega arith) inv.stack gave.elsewhere gave.free gave.next;
      slot_count = gave.elsewhere.slot_count ∙ inv.slot_count;
      store = gave.store ∙ inv.store;
      readings = gave.readings ∙ inv.readings;
    }

pub returns : goal.returns
returns g c =
    let inv = c.loop-i.invariant in
    let whole = whole_free _ c.args.n c.loop-i.i c.loop-i-test.false inv.roomy inv.usable inv.stack in
    record {
      usable = inv.usable;
      sound = sound_whole whole;
      chunks = ap (chunks_of c.loop-i.memory) (tree_is whole);
      all_free = free_is whole;
      keeps = λ μ. subst (Holds (kept μ) c.loop-i.memory) (sym (tree_is whole)) tt;
      slot_count = inv.slot_count;
      store = inv.store;
      readings = inv.readings;
    }
