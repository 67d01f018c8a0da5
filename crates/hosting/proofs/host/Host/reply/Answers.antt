use Rattle.std.proofs.Common.{refl, ap, subst, Some}
use Rattle.model.specs.declared.change.Change.{Change}
use Rattle.std.specs.Prelude.{length, Option}
use Rattle.session.specs.Asked.{asked}
use Rattle.document.specs.Content.{model_of}
use Rattle.document.specs.Snapshot.{seen}
use Rattle.hosting.specs.Replies.{host_scale, IsCall}
use Rattle.hosting.proofs.Replying.{carried}
use Rattle.hosting.proofs.host.Host.reply.Goals as goal

pub returns-in_ok-answer_of-in-Some-clause-replies : goal.returns-in_ok-answer_of-in-Some-clause-replies
returns-in_ok-answer_of-in-Some-clause-replies g c keeps =
    let self = c.args.self.now in
    let a = g.G.Grammar.meaning self.meter.now.first.grammar in
    let m = model_of c.args.document.now in
    let cells = length c.args.desk.now.buffer.now in
    let call = c.in-Some.call in
    let r = asked c.args.request.now in
    let by_states : IsCall a.count c.standing-standing.result cells r call = subst (λ n. IsCall n c.standing-standing.result cells r call) c.count-states.ensures c.in-Some.ensures in
    let is : IsCall a.count m.due cells r call = subst (λ (o : Option Change). IsCall a.count o cells r call) c.standing-standing.ensures by_states in
    carried a (host_scale g.G.Grammar.meaning self.meter.now) r _ _ _ a.count m.due cells call is (record {
      entry = record { call = call; answer = c.perform-answer.result; after = seen c.perform-answer.new.self c.perform-answer.new.desk };
      is_call = is;
      obeys = c.perform-answer.ensures.obeys keeps;
      leaves = refl;
      writes = ap Some (c.in_ok-answer_of-in-Some.ensures);
    })
