-- A request that is a call replies as its call is carried out.
use Rattle.std.proofs.Common.{ℕ, List, Option}
use Rattle.automaton.specs.Automaton.{Automaton}
use Rattle.measure.specs.Measure.{Measure}
use Rattle.model.specs.declared.change.Change.{Change}
use Rattle.document.specs.declared.call.Call.{Call}
use Rattle.document.specs.Snapshot.{Snapshot}
use Rattle.session.specs.Asked.{Asked, PassedOver, Screen}
use Rattle.hosting.specs.Replies.{IsCall, Readings, CarriesOut, Replies}

pub carried : {X : Type 0} (a : Automaton) (μ : Measure (Readings X)) (r : Asked) (before after : Snapshot (Readings X)) (out : Option (List ℕ)) (states : ℕ) (standing : Option Change) (cells : ℕ) (k : Call) →
    IsCall states standing cells r k → CarriesOut a μ r before after out → Replies a μ r before after out
carried a μ PassedOver before after out states standing cells k is c = absurd is
carried a μ (Screen shown) before after out states standing cells k is c = absurd is
carried a μ r before after out states standing cells k is c = c
