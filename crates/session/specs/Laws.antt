-- What is written reads back as it was. Each law stands on the contract of a function of src/laws.rt, so that it is proved.
use Rattle.std.specs.Prelude.{◌≡◌, ℕ, ◌<◌, List, ◌++◌, Ok, All, codes, decimal}
use Rattle.std.specs.List.{flat_map}
use Rattle.model.specs.declared.replacement.Replacement.{Replacement}
use Rattle.session.specs.Asked.{Edit, Script}
use Rattle.notation.specs.Quoted.{quoted}
use Rattle.session.specs.Request.{request_of}

-- The line of an edit, its bytes as text in quotes, asks for that edit.
abbrev pub edit_line : ℕ → ℕ → List ℕ → List ℕ
edit_line from to bytes = codes "edit " ++ (decimal from ++ (codes " " ++ (decimal to ++ (codes " " ++ quoted bytes))))

abbrev pub EditReadsBack : Type 0
EditReadsBack = (from to : ℕ) (bytes : List ℕ) → from < 4294967296 → to < 4294967296 → All (λ b. b < 256) bytes → request_of (edit_line from to bytes) ≡ Ok (Edit from to bytes)

-- The line of a script, its text in quotes and its records a word each, asks for that script.
abbrev pub record_word : Replacement → List ℕ
record_word r = decimal r.from ++ (codes "," ++ (decimal r.to ++ (codes "," ++ (decimal r.start ++ (codes "," ++ decimal r.end)))))

abbrev pub script_line : List ℕ → List Replacement → List ℕ
script_line text records = codes "script " ++ (quoted text ++ flat_map (λ r. codes " " ++ record_word r) records)

-- The numbers of a record as the code keeps them.
pub record Numbers (r : Replacement) : Type 0 where
  pub from_small : r.from < 4294967296
  pub to_small : r.to < 4294967296
  pub start_small : r.start < 4294967296
  pub end_small : r.end < 4294967296

abbrev pub ScriptReadsBack : Type 0
ScriptReadsBack = (text : List ℕ) (records : List Replacement) → All (λ b. b < 256) text → All Numbers records → request_of (script_line text records) ≡ Ok (Script text records)
