-- Records carried out one after another: what is known behind each of them.
use Rattle.std.proofs.Common.{◌≡◌, ℕ, suc, ◌+◌, ◌-◌, ◌<◌, ◌≤◌, true, List, [], ◌∷◌, ◌++◌, length, drop, get_or, Some, None, sym, refl, ap, ◌∙◌, subst, arith}
use Rattle.std.proofs.lemmas.List.{length-append, drop_all, drop_more}
use Rattle.automaton.specs.Automaton.{Automaton}
use Rattle.measure.specs.Measure.{Measure}
use Rattle.model.specs.declared.change.Change.{Change}
use Rattle.model.specs.declared.refusal.Refusal.{Refusal}
use Rattle.model.specs.declared.replacement.Replacement.{Replacement}
use Rattle.model.specs.Calls.{edited, fits, due_fits}
use Rattle.model.specs.End.{EndsFirst}
use Rattle.model.specs.Model.{Model, text_of}
use Rattle.model.specs.SomeWalk.{ChangeColoured}
use Rattle.model.specs.Script.{part_of, record_refusal, record_change, recorded, record_painted, RecordColoured, Scripted, one_more, stopped_or, scripted, screen_or, script_screen}
use Rattle.model.proofs.Editing.{edit_leaves_text}
use Rattle.model.proofs.Ending.{ends_first}
use Rattle.document.specs.declared.document.Document.{Document}
use Rattle.document.specs.Content.{model_of, text, Keeps, Unchanged}
use Rattle.document.specs.Snapshot.{Snapshot, SameSnapshot}
use Rattle.editing.proofs.Showing.{fits_parts}
use Rattle.document.specs.Records.{CarriedInText, CarriedTo, Stepwise, RecordByRecord}
use Rattle.document.proofs.Records.{record_accepted}

-- Records done one after another, up to the last of them.
abbrev pub Reached : {R : Type 0} → (Replacement → Snapshot R → Snapshot R → Type 0) → Snapshot R → List Replacement → List (Snapshot R) → Snapshot R → Type 0
Reached Done before rs [] here = here ≡ before
Reached Done before [] (s ∷ steps) here = ⊥
Reached Done before (r ∷ rs) (s ∷ steps) here = Done r before s × Reached Done s rs steps here

left_there : {R : Type 0} (Done : Replacement → Snapshot R → Snapshot R → Type 0) (before : Snapshot R) (rs : List Replacement) (steps : List (Snapshot R)) (here after : Snapshot R) → Reached Done before rs steps here → SameSnapshot here after → Stepwise Done before rs steps after
left_there Done before rs [] here after so same = subst (λ (s : Snapshot _). SameSnapshot s after) so same
left_there Done before [] (s ∷ steps) here after so same = absurd so
left_there Done before (r ∷ rs) (s ∷ steps) here after so same = (so.0, left_there Done s rs steps here after so.1 same)

-- So many records more in front.
abbrev pub ahead : ℕ → Scripted → Scripted
ahead n s = record { done = n + s.done; refused = s.refused; after = s.after }

-- The records from number i on make of the document of now what all of them make of the first one.
abbrev pub Onward : ℕ → List ℕ → List Replacement → ℕ → Model → Model → Type 0
Onward cells given records i first now = scripted cells given first records ≡ ahead i (scripted cells given now (drop i records))

-- A document and its screen, with some buffer and some reading of RANGE.
abbrev pub lying : {R : Type 0} → List ℕ → R → Document R → List ℕ → Snapshot R
lying buffer reading document screen = record { document = document; screen = screen; buffer = buffer; reading = reading }

-- The snapshots behind the records so far, whatever the buffer and the reading of RANGE are.
pub record Steps {R : Type 0} (Done : Replacement → Snapshot R → Snapshot R → Type 0) (records : List Replacement) (buffer : List ℕ) (reading : R) (i : ℕ) (first : Document R) (screen_first : List ℕ) (now : Document R) (screen_now : List ℕ) : Type 0 where
  pub each : List (Snapshot R)
  pub as_many : length each ≡ i
  pub stepwise : Reached Done (lying buffer reading first screen_first) records each (lying buffer reading now screen_now)

abbrev pub AllSteps : {R : Type 0} → (Replacement → Snapshot R → Snapshot R → Type 0) → List Replacement → ℕ → Document R → List ℕ → Document R → List ℕ → Type 0
AllSteps Done records i first screen_first now screen_now = (buffer : List ℕ) (reading : _) → Steps Done records buffer reading i first screen_first now screen_now

-- Where readings are kept: the same on the screen, and the steps up to here.
pub record Stepped {R : Type 0} (a : Automaton) (μ : Measure R) (given : List ℕ) (records : List Replacement) (i : ℕ) (first : Document R) (screen_first : List ℕ) (now : Document R) (screen_now : List ℕ) : Type 0 where
  pub kept : Keeps now μ
  pub screens : script_screen a (length screen_first) given (model_of first) screen_first records ≡ script_screen a (length screen_first) given (model_of now) screen_now (drop i records)
  pub steps : AllSteps (CarriedTo a given (λ s. Keeps s.document μ)) records i first screen_first now screen_now

ahead_more : (i : ℕ) (s : Scripted) → ahead i (one_more s) ≡ ahead (i + 1) s
ahead_more i s = let e : i + suc s.done ≡ i + 1 + s.done = omega arith in λ z. record { done = e z; refused = s.refused; after = s.after }

-- One record more that is not refused.
module _ (cells : ℕ) (given : List ℕ) (records : List Replacement) (i : ℕ) (r d : Replacement) (some : i < length records) (is : r ≡ get_or records i d) where
  next_record : drop i records ≡ r ∷ drop (i + 1) records
  next_record = drop_more records i d some ∙ ap (λ q. q ∷ drop (i + 1) records) (sym is)

  pub onward_more : (first now after : Model) → Onward cells given records i first now → record_refusal cells given now r ≡ None → after ≡ recorded given now r → Onward cells given records (i + 1) first after
  onward_more first now after so none left =
      let rest = scripted cells given (recorded given now r) (drop (i + 1) records) in
      so
      ∙ ap (λ rs. ahead i (scripted cells given now rs)) next_record
      ∙ ap (λ o. ahead i (stopped_or o now rest)) none
      ∙ ahead_more i rest
      ∙ ap (λ (m : Model). ahead (i + 1) (scripted cells given m (drop (i + 1) records))) (sym left)

  -- One that is.
  pub onward_refused : (first now : Model) (f : Refusal) → Onward cells given records i first now → record_refusal cells given now r ≡ Some f → scripted cells given first records ≡ record { done = i + 0; refused = Some f; after = now }
  onward_refused first now f so refused =
      so ∙ ap (λ rs. ahead i (scripted cells given now rs)) next_record ∙ ap (λ o. ahead i (stopped_or o now (scripted cells given (recorded given now r) (drop (i + 1) records)))) refused

  pub screens_more : (a : Automaton) (now after : Model) (screen screen_after : List ℕ) → record_refusal cells given now r ≡ None → after ≡ recorded given now r → screen_after ≡ record_painted a given now screen r →
      script_screen a cells given now screen (drop i records) ≡ script_screen a cells given after screen_after (drop (i + 1) records)
  screens_more a now after screen screen_after none left shown =
      let rest = drop (i + 1) records in
      ap (script_screen a cells given now screen) next_record
      ∙ ap (λ o. screen_or o screen (script_screen a cells given (recorded given now r) (record_painted a given now screen r) rest)) none
      ∙ ap (λ (m : Model). script_screen a cells given m (record_painted a given now screen r) rest) (sym left)
      ∙ ap (λ s. script_screen a cells given after s rest) (sym shown)

-- None is left.
pub onward_done : (cells : ℕ) (given : List ℕ) (records : List Replacement) (i : ℕ) (first now : Model) → Onward cells given records i first now → length records ≤ i → scripted cells given first records ≡ record { done = i + 0; refused = None; after = now }
onward_done cells given records i first now so none = so ∙ ap (λ rs. ahead i (scripted cells given now rs)) (drop_all i records none)

pub screens_done : (a : Automaton) (cells : ℕ) (given : List ℕ) (records : List Replacement) (i : ℕ) (now : Model) (screen : List ℕ) → length records ≤ i → script_screen a cells given now screen (drop i records) ≡ screen
screens_done a cells given records i now screen none = ap (script_screen a cells given now screen) (drop_all i records none)

-- The steps, with one more behind them.
steps_more : {R : Type 0} (Done : Replacement → Snapshot R → Snapshot R → Type 0) (before : Snapshot R) (rs : List Replacement) (steps : List (Snapshot R)) (here after : Snapshot R) (r : Replacement) (rest : List Replacement) →
    Reached Done before rs steps here → drop (length steps) rs ≡ r ∷ rest → Done r here after → Reached Done before rs (steps ++ (after ∷ [])) after
steps_more Done before [] [] here after r rest so is c = let no : ◌≡◌ {A = ℕ} 0 (suc (length rest)) = ap length is in absurd (omega arith)
steps_more Done before (q ∷ rs) [] here after r rest so is c =
    let same : q ≡ r = cc in
    (subst (λ (p : Replacement). Done p before after) (sym same) (subst (λ (s : Snapshot _). Done r s after) so c), refl)
steps_more Done before [] (s ∷ steps) here after r rest so is c = absurd so
steps_more Done before (q ∷ rs) (s ∷ steps) here after r rest so is c = (so.0, steps_more Done s rs steps here after r rest so.1 is c)

module _ {R : Type 0} (Done : Replacement → Snapshot R → Snapshot R → Type 0) (records : List Replacement) where
  pub one_step : (i : ℕ) (r : Replacement) (rest : List Replacement) → drop i records ≡ r ∷ rest → (first : Document R) (screen_first : List ℕ) (now : Document R) (screen : List ℕ) (after : Document R) (screen_after : List ℕ) →
      ((buffer : List ℕ) (reading : R) → Done r (lying buffer reading now screen) (lying buffer reading after screen_after)) → AllSteps Done records i first screen_first now screen → AllSteps Done records (i + 1) first screen_first after screen_after
  one_step i r rest next first screen_first now screen after screen_after done steps buffer reading =
      let s = steps buffer reading in
      let here = lying buffer reading after screen_after in
      record {
        each = s.each ++ (here ∷ []);
        as_many = length-append s.each (here ∷ []) ∙ ap (λ n. n + 1) s.as_many;
        stepwise = steps_more Done _ records s.each _ here r rest s.stepwise (ap (λ n. drop n records) s.as_many ∙ next) (done buffer reading);
      }

  -- What all of them come to.
  pub by_steps : (given : List ℕ) (i : ℕ) (first : Document R) (screen_first : List ℕ) (now after : Document R) (screen screen_after : List ℕ) (buffer : List ℕ) (reading : R) → AllSteps Done records i first screen_first now screen →
      Unchanged now after → screen_after ≡ screen → (scripted (length screen_first) given (model_of first) records).done ≡ i → RecordByRecord Done given records (lying buffer reading first screen_first) (lying buffer reading after screen_after)
  by_steps given i first screen_first now after screen screen_after buffer reading steps same shown done =
      let s = steps buffer reading in
      record {
        steps = s.each;
        as_many = s.as_many ∙ sym done;
        stepwise = left_there Done _ records s.each _ (lying buffer reading after screen_after) s.stepwise (same, (shown, (refl, refl)));
      }

-- The due of a record's edit, painted: some change with the record's numbers is.
pub record_coloured : (a : Automaton) (given : List ℕ) (m : Model) (r : Replacement) (c : Change) (before after : List ℕ) (now : Model) → now ≡ edited m r.from r.to (part_of given r) c → due_fits now.due (length (text_of now)) ≡ true →
    c.place ≡ r.from → c.removed ≡ r.to - r.from → c.inserted ≡ length (part_of given r) → ChangeColoured a (text_of now) c before after → RecordColoured a given m r before after
record_coloured a given m r c before after now is fitting place removed inserted painted =
    let t = text_of (recorded given m r) in
    let fit : fits c (length t) ≡ true = subst (λ (n : Model). due_fits n.due (length (text_of n)) ≡ true) is fitting in
    let parts = fits_parts c (length t) fit in
    let same : c ≡ record { place = r.from; removed = r.to - r.from; inserted = length (part_of given r); end = c.end } = λ z. record { place = place z; removed = removed z; inserted = inserted z; end = c.end } in
    record {
      end = c.end;
      behind = omega (arith, parts.0, place, inserted);
      within = parts.1;
      painted = subst (λ (d : Change). ChangeColoured a t d before after) same (subst (λ (n : Model). ChangeColoured a (text_of n) c before after) is painted);
    }

-- A record that was carried out names its end.
ends_so : {R : Type 0} (a : Automaton) (given : List ℕ) (r : Replacement) (cells : ℕ) (now after : Document R) → record_refusal cells given (model_of now) r ≡ None → model_of after ≡ recorded given (model_of now) r →
    EndsFirst a (text now) (text after) (record_change a given (model_of now) r)
ends_so a given r cells now after none left =
    let m = model_of now in
    let ok = record_accepted cells given m r none in
    let is = edit_leaves_text m.chunks r.from r.to (part_of given r) ok.allowed.forward ok.allowed.inside in
    subst (λ t. EndsFirst a (text now) t (record_change a given m r)) (sym (ap (λ (n : Model). text_of n) left ∙ is)) (ends_first (text now) r.from r.to (part_of given r) ok.allowed.forward ok.allowed.inside a)

-- One record more.
module _ {R : Type 0} (a : Automaton) (given : List ℕ) (records : List Replacement) (i : ℕ) (r d : Replacement) (some : i < length records) (is : r ≡ get_or records i d) (first : Document R) (screen_first : List ℕ) (now : Document R) (screen : List ℕ) (after : Document R) (screen_after : List ℕ)
    (none : record_refusal (length screen) given (model_of now) r ≡ None) (left : model_of after ≡ recorded given (model_of now) r) (coloured : RecordColoured a given (model_of now) r screen screen_after) where
  in_text : (buffer : List ℕ) (reading : R) → CarriedInText a given r (lying buffer reading now screen) (lying buffer reading after screen_after)
  in_text buffer reading = record { accepted = none; model_is = left; screen_coloured = coloured; buffer_same = refl; reading_same = refl }

  pub coloured_more : AllSteps (CarriedInText a given) records i first screen_first now screen → AllSteps (CarriedInText a given) records (i + 1) first screen_first after screen_after
  coloured_more = one_step (CarriedInText a given) records i r (drop (i + 1) records) (next_record (length screen) given records i r d some is) first screen_first now screen after screen_after in_text

  pub stepped_more : (μ : Measure R) → length screen ≡ length screen_first → screen_after ≡ record_painted a given (model_of now) screen r → Keeps after μ →
      Stepped a μ given records i first screen_first now screen → Stepped a μ given records (i + 1) first screen_first after screen_after
  stepped_more μ long shown kept s =
      let same : record_refusal (length screen_first) given (model_of now) r ≡ None = ap (λ n. record_refusal n given (model_of now) r) (sym long) ∙ none in
      record {
        kept = kept;
        screens = s.screens ∙ screens_more (length screen_first) given records i r d some is a (model_of now) (model_of after) screen screen_after same left shown;
        steps = one_step (CarriedTo a given (λ t. Keeps t.document μ)) records i r (drop (i + 1) records) (next_record (length screen) given records i r d some is) first screen_first now screen after screen_after
            (λ buffer reading. (record { in_text = in_text buffer reading; screen_is = shown; names_its_end = ends_so a given r (length screen) now after none left }, kept)) s.steps;
      }
