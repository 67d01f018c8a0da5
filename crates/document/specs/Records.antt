-- What a SCRIPT answers, and what stands behind each of its records.
use Rattle.std.specs.Prelude.{◌≡◌, ℕ, List, [], ◌∷◌, length, Some, None, Ok, Err, Option, Result}
use Rattle.automaton.specs.Automaton.{Automaton}
use Rattle.model.specs.declared.refusal.Refusal.{Refusal}
use Rattle.model.specs.declared.replacement.Replacement.{Replacement}
use Rattle.model.specs.End.{EndsFirst}
use Rattle.model.specs.Script.{record_refusal, record_change, recorded, record_painted, RecordColoured, Scripted, scripted}
use Rattle.document.specs.declared.document.script.RecordRefusal.{RecordRefusal}
use Rattle.document.specs.Content.{model_of, text}
use Rattle.document.specs.Snapshot.{Snapshot, SameSnapshot}

-- The number of records done, or the index of the one that was refused, with its refusal.
abbrev pub result_by : Option Refusal → ℕ → Result ℕ RecordRefusal
result_by None done = Ok done
result_by (Some refusal) done = Err (record { index = done; refusal = refusal })

abbrev pub script_result : Scripted → Result ℕ RecordRefusal
script_result s = result_by s.refused s.done

module _ {R : Type 0} (a : Automaton) (given : List ℕ) where
  -- A record that was carried out, whatever readings were kept: nothing refused it, and it left what an EDIT and the PAINT of its due leave.
  pub record CarriedInText (r : Replacement) (before after : Snapshot R) : Type 0 where
    pub accepted : record_refusal (length before.screen) given (model_of before.document) r ≡ None
    pub model_is : model_of after.document ≡ recorded given (model_of before.document) r
    pub screen_coloured : RecordColoured a given (model_of before.document) r before.screen after.screen
    pub buffer_same : after.buffer ≡ before.buffer
    pub reading_same : after.reading ≡ before.reading

  -- Where they were the meter's, the due's end is the first place behind the new bytes where the old and the new walk share a
  -- state, else the end of the new text, and the colours are the text's.
  pub record Carried (r : Replacement) (before after : Snapshot R) : Type 0 where
    pub in_text : CarriedInText r before after
    pub screen_is : after.screen ≡ record_painted a given (model_of before.document) before.screen r
    pub names_its_end : EndsFirst a (text before.document) (text after.document) (record_change a given (model_of before.document) r)

  -- And so much is true behind it.
  abbrev pub CarriedTo : (Snapshot R → Type 0) → Replacement → Snapshot R → Snapshot R → Type 0
  CarriedTo True r before after = Carried r before after × True after

-- Records done one after another; what the last of them left is there in the end, with nothing of it changed.
abbrev pub Stepwise : {R : Type 0} → (Replacement → Snapshot R → Snapshot R → Type 0) → Snapshot R → List Replacement → List (Snapshot R) → Snapshot R → Type 0
Stepwise Done before rs [] after = SameSnapshot before after
Stepwise Done before [] (s ∷ steps) after = ⊥
Stepwise Done before (r ∷ rs) (s ∷ steps) after = Done r before s × Stepwise Done s rs steps after

-- The snapshots behind each record that was done. A record that is refused changes nothing, not a byte of the lent memory.
pub record RecordByRecord {R : Type 0} (Done : Replacement → Snapshot R → Snapshot R → Type 0) (given : List ℕ) (records : List Replacement) (before after : Snapshot R) : Type 0 where
  pub steps : List (Snapshot R)
  pub as_many : length steps ≡ (scripted (length before.screen) given (model_of before.document) records).done
  pub stepwise : Stepwise Done before records steps after
