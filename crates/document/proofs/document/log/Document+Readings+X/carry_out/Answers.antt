use Rattle.std.proofs.Common.{◌≡◌, sym, subst}
use Rattle.automaton.specs.Automaton.{Automaton}
use Rattle.document.specs.declared.call.Call.{Call}
use Rattle.document.specs.Snapshot.{Snapshot}
use Rattle.document.specs.Log.{ByRecords}
use Rattle.document.proofs.Partners.{partner_obeys}
use Rattle.document.proofs.document.log.Document+Readings+X.carry_out.Goals as goal

pub returns-in-Open-clause-keeps : goal.returns-in-Open-clause-keeps
returns-in-Open-clause-keeps g c = c.try_open.ensures.keeps _

-- A script was carried out record by record, whichever call it came by.
by_records : {R : Type 0} (a : Automaton) (True : Snapshot R → Type 0) (before : Snapshot R) (k l : Call) (after : Snapshot R) → k ≡ l → ByRecords a True before l after → ByRecords a True before k after
by_records a True before k l after is done = subst (λ (j : Call). ByRecords a True before j after) (sym is) done

pub returns-in-Script-clause-records : goal.returns-in-Script-clause-records
returns-in-Script-clause-records g c kept = by_records _ _ _ _ _ _ c.in-Script.is (c.try_script.ensures.records c.args.desk.now.buffer.now c.args.desk.now.reading.now kept)

pub returns-in-Partner-clause-anyway : goal.returns-in-Partner-clause-anyway
returns-in-Partner-clause-anyway g c = partner_obeys _ _ _ _ _ c.partner.result c.in-Partner.is c.partner.ensures.anyway c.told-in-Partner.ensures
