-- The law over logs: a call that does as the rules say keeps a log lawful.
use Rattle.std.proofs.Common.{◌≡◌, ℕ, ◌≤◌, true, ◌&&◌, eqb, leb, List, [], ◌∷◌, length, Some, None, Ok, Err, Option, Result, sym, refl, ap, ◌∙◌, subst, arith}
use Rattle.std.proofs.lemmas.Bool.{and_parts, eqb-true, leb-true}
use Rattle.automaton.specs.Automaton.{Automaton}
use Rattle.chunks.specs.Cut.{joined}
use Rattle.chunks.specs.Tree.{Balanced, height}
use Rattle.measure.specs.Measure.{Measure}
use Rattle.slots.specs.Claim.{nothing}
use Rattle.slots.specs.Sound.{tree_of}
use Rattle.slots.proofs.Holds.{balanced_held, low_held}
use Rattle.slots.proofs.Reading.{whole_sound}
use Rattle.model.specs.declared.change.Change.{Change}
use Rattle.model.specs.declared.refusal.Refusal.{Refusal}
use Rattle.model.specs.declared.refusal.Refusal.TheVariants.{UnknownDue, ShortScreen}
use Rattle.model.specs.Calls.{opened, edit_refusal, change_refusal, edited, same_change, stands, paint_refusal, screen_refusal}
use Rattle.model.specs.Edit.{edited_text}
use Rattle.model.specs.End.{edit_change, EndsFirst}
use Rattle.model.specs.Laws.{ShowsText}
use Rattle.model.specs.Model.{Model, text_of}
use Rattle.model.specs.Paint.{painted, length_before}
use Rattle.model.proofs.Editing.{edit_leaves_text}
use Rattle.model.proofs.Ending.{ends_first}
use Rattle.model.proofs.Painting.{painting_shows, painted_long}
use Rattle.model.specs.declared.replacement.Replacement.{Replacement}
use Rattle.model.specs.Script.{part_of, record_refusal, record_change, recorded, record_painted, Scripted, stopped_or, screen_or, scripted, script_screen}
use Rattle.tree.specs.declared.chunk_tree.ChunkTree.{ChunkTree}
use Rattle.tree.specs.Public.{tree_in}
use Rattle.editing.proofs.Planning.{passed, was_allowed}
use Rattle.document.specs.declared.call.Call.{Call}
use Rattle.document.specs.declared.call.Call.TheVariants as call
use Rattle.document.specs.declared.call.Answer.TheVariants as answer
use Rattle.document.specs.Content.{model_of, text, Keeps}
use Rattle.document.specs.Snapshot.{Snapshot}
use Rattle.document.specs.declared.document.script.RecordRefusal.{RecordRefusal}
use Rattle.document.specs.Records.{script_result, Carried, CarriedTo, Stepwise}
use Rattle.document.specs.Log.{Entry, script_answer, script_of, refusal_of, answer_done, model_done, screen_done, replied, left_by, Obeys, ByRecords, NamesItsEnd, Stands, New, latest, Follows}
use Rattle.document.proofs.Opening.{none_usable, openable}
use Rattle.document.proofs.Records.{no_due, record_accepted}

-- A change that waits: the screen still shows the text before the edit.
pub record Waits (a : Automaton) (now-text screen : List ℕ) (c : Change) : Type 0 where
  pub old : List ℕ
  pub from : ℕ
  pub to : ℕ
  pub new : List ℕ
  pub forward : from ≤ to
  pub inside : to ≤ length old
  pub shown : ShowsText a old screen
  pub text_is : now-text ≡ edited_text old from to new
  pub change_is : c ≡ edit_change a old from to new

-- What the screen shows, by the due that stands.
abbrev ShownSo : Automaton → List ℕ → List ℕ → Option Change → Type 0
ShownSo a t screen None = ShowsText a t screen
ShownSo a t screen (Some c) = Waits a t screen c

abbrev pub Pending : {R : Type 0} → Automaton → Snapshot R → Type 0
Pending a s = ShownSo a (text s.document) s.screen (model_of s.document).due

-- The same of a model and a screen that are known to be those of a snapshot.
pending_by : (a : Automaton) (m m' : Model) (screen screen' : List ℕ) → m' ≡ m → screen' ≡ screen → ShownSo a (text_of m) screen m.due → ShownSo a (text_of m') screen' m'.due
pending_by a m m' screen screen' e f p =
    subst (λ l. ShownSo a (text_of m') l m'.due) (sym f) (subst (λ n. ShownSo a (text_of n) screen n.due) (sym e) p)

-- The due that stands has the numbers that agree with it.
agreed : (c d : Change) → same_change c d ≡ true → c ≡ d
agreed c d e =
    let a = and_parts (eqb c.place d.place) (eqb c.removed d.removed && (eqb c.inserted d.inserted && eqb c.end d.end)) e in
    let b = and_parts (eqb c.removed d.removed) (eqb c.inserted d.inserted && eqb c.end d.end) a.1 in
    let f = and_parts (eqb c.inserted d.inserted) (eqb c.end d.end) b.1 in
    let place = eqb-true c.place d.place a.0 in
    let removed = eqb-true c.removed d.removed b.0 in
    let inserted = eqb-true c.inserted d.inserted f.0 in
    let end = eqb-true c.end d.end f.1 in
    λ z. record { place = place z; removed = removed z; inserted = inserted z; end = end z }

standing : (due : Option Change) (c : Change) → stands due c ≡ true → due ≡ Some c
standing None c e = cc
standing (Some d) c e = ap Some (agreed d c e)

module _ (a : Automaton) (m : Model) (screen : List ℕ) where
  -- OPEN: there was no text, and there is none.
  opened_pending : joined m.chunks ≡ [] → ShownSo a (text_of m) screen m.due → ShownSo a (text_of (opened m)) screen (opened m).due
  opened_pending none p = subst (λ t. ShownSo a t screen m.due) none p

  -- EDIT: the screen waits.
  edited_pending : (from to : ℕ) (new : List ℕ) → edit_refusal m from to new ≡ None → ShownSo a (text_of m) screen m.due →
      ShownSo a (text_of (edited m from to new (edit_change a (text_of m) from to new))) screen (Some (edit_change a (text_of m) from to new))
  edited_pending from to new e p =
      let free = no_due m.due (change_refusal m from to new) e in
      let ok = was_allowed m from to new free.1 in
      record {
        old = text_of m;
        from = from;
        to = to;
        new = new;
        forward = ok.forward;
        inside = ok.inside;
        shown = subst (ShownSo a (text_of m) screen) free.0 p;
        text_is = edit_leaves_text m.chunks from to new ok.forward ok.inside;
        change_is = refl;
      }

  edited_ends : (from to : ℕ) (new : List ℕ) → edit_refusal m from to new ≡ None → EndsFirst a (text_of m) (text_of (edited m from to new (edit_change a (text_of m) from to new))) (edit_change a (text_of m) from to new)
  edited_ends from to new e =
      let ok = was_allowed m from to new (no_due m.due (change_refusal m from to new) e).1 in
      subst (λ t. EndsFirst a (text_of m) t (edit_change a (text_of m) from to new)) (sym (edit_leaves_text m.chunks from to new ok.forward ok.inside)) (ends_first (text_of m) from to new ok.forward ok.inside a)

  -- PAINT: the screen shows the text again.
  painted_pending : (c : Change) → paint_refusal m c (length screen) ≡ None → ShownSo a (text_of m) screen m.due → ShowsText a (text_of m) (painted a (text_of m) c screen)
  painted_pending c e p =
      let one = passed (stands m.due c) (UnknownDue c.place) (screen_refusal m c (length screen)) e in
      let n = length (text_of m) in
      let two = passed (leb n (length screen) && leb (length_before c n) (length screen)) (ShortScreen (length screen)) None one.1 in
      let wide = leb-true n (length screen) (and_parts (leb n (length screen)) (leb (length_before c n) (length screen)) two.0).0 in
      let w = subst (ShownSo a (text_of m) screen) (standing m.due c one.0) p in
      let after = edited_text w.old w.from w.to w.new in
      let shows = painting_shows a w.old w.from w.to w.new screen w.forward w.inside w.shown (subst (λ t. length t ≤ length screen) w.text_is wide) in
      subst (λ (d : Change). ShowsText a (text_of m) (painted a (text_of m) d screen)) (sym w.change_is) (subst (λ t. ShowsText a t (painted a t (edit_change a w.old w.from w.to w.new) screen)) (sym w.text_is) shows)

-- SCRIPT: its records leave the screen as it should be, one after another.
record_pending : (a : Automaton) (given : List ℕ) (m : Model) (screen : List ℕ) (r : Replacement) (cells : ℕ) → cells ≡ length screen → record_refusal cells given m r ≡ None → ShownSo a (text_of m) screen m.due →
    ShowsText a (text_of (recorded given m r)) (record_painted a given m screen r)
record_pending a given m screen r cells long e p =
    let new = part_of given r in
    let ok = record_accepted cells given m r e in
    let is = edit_leaves_text m.chunks r.from r.to new ok.allowed.forward ok.allowed.inside in
    let shows = painting_shows a (text_of m) r.from r.to new screen ok.allowed.forward ok.allowed.inside (subst (ShownSo a (text_of m) screen) ok.no_due p) (omega (arith, ok.wide_behind, long)) in
    subst (λ t. ShowsText a t (painted a t (record_change a given m r) screen)) (sym is) shows

record_long : (a : Automaton) (given : List ℕ) (m : Model) (screen : List ℕ) (r : Replacement) (cells : ℕ) → cells ≡ length screen → record_refusal cells given m r ≡ None → ShownSo a (text_of m) screen m.due →
    cells ≡ length (record_painted a given m screen r)
record_long a given m screen r cells long e p =
    let new = part_of given r in
    let ok = record_accepted cells given m r e in
    let is = edit_leaves_text m.chunks r.from r.to new ok.allowed.forward ok.allowed.inside in
    let same = painted_long a (text_of m) r.from r.to new screen ok.allowed.forward ok.allowed.inside (subst (ShownSo a (text_of m) screen) ok.no_due p) (omega (arith, ok.wide_behind, long)) in
    long ∙ sym (ap (λ t. length (painted a t (record_change a given m r) screen)) is ∙ same)

abbrev ScriptShown : Automaton → Option Refusal → Model → List ℕ → Scripted → List ℕ → Type 0
ScriptShown a o m screen rest shown = ShownSo a (text_of (stopped_or o m rest).after) (screen_or o screen shown) (stopped_or o m rest).after.due

script_so : (a : Automaton) (o : Option Refusal) (m : Model) (screen : List ℕ) (rest : Scripted) (shown : List ℕ) → (o ≡ None → ShownSo a (text_of rest.after) shown rest.after.due) → ShownSo a (text_of m) screen m.due → ScriptShown a o m screen rest shown
script_so a None m screen rest shown further p = further refl
script_so a (Some f) m screen rest shown further p = p

script_pending : (a : Automaton) (given : List ℕ) (m : Model) (screen : List ℕ) (rs : List Replacement) (cells : ℕ) → cells ≡ length screen → ShownSo a (text_of m) screen m.due →
    ShownSo a (text_of (scripted cells given m rs).after) (script_screen a cells given m screen rs) (scripted cells given m rs).after.due
script_pending a given m screen [] cells long p = p
script_pending a given m screen (r ∷ rs) cells long p =
    let painted_so = record_painted a given m screen r in
    script_so a (record_refusal cells given m r) m screen (scripted cells given (recorded given m r) rs) (script_screen a cells given (recorded given m r) painted_so rs)
    (λ e. script_pending a given (recorded given m r) painted_so rs cells (record_long a given m screen r cells long e p) (record_pending a given m screen r cells long e p)) p

-- Behind a call that was not refused.
done_pending : {R : Type 0} (a : Automaton) (s : Snapshot R) (k : Call) → refusal_of a s k ≡ None → Pending a s → ShownSo a (text_of (model_done a s k)) (screen_done a s k) (model_done a s k).due
done_pending a s (call.Open states) e p =
    let known = openable (model_of s.document) states e in
    opened_pending a (model_of s.document) s.screen (ap joined (none_usable s.document.tree known.not_opened)) p
done_pending a s (call.Edit from to bytes) e p = edited_pending a (model_of s.document) s.screen from to bytes.now e p
done_pending a s (call.Paint c) e p = painted_pending a (model_of s.document) s.screen c e p
done_pending a s (call.Script records given) e p = script_pending a given.now (model_of s.document) s.screen records.now (length s.screen) refl p
done_pending a s k e p = p

-- A refusal, or none.
left_pending : (a : Automaton) (o : Option Refusal) (m done : Model) (screen shown : List ℕ) → (o ≡ None → ShownSo a (text_of done) shown done.due) → ShownSo a (text_of m) screen m.due →
    ShownSo a (text_of (left_by o m done)) (left_by o screen shown) (left_by o m done).due
left_pending a None m done screen shown d p = d refl
left_pending a (Some f) m done screen shown d p = p

pub obeyed_pending : {R : Type 0} (a : Automaton) (μ : Measure R) (s : Snapshot R) (e : Entry R) → Obeys a μ s e → Pending a s → Pending a e.after
obeyed_pending a μ s e obeys p =
    let o = refusal_of a s e.call in
    let k = e.call in
    pending_by a (left_by o (model_of s.document) (model_done a s k)) (model_of e.after.document) (left_by o s.screen (screen_done a s k)) e.after.screen obeys.model_is obeys.screen_is
    (left_pending a o (model_of s.document) (model_done a s k) s.screen (screen_done a s k) (λ none. done_pending a s k none p) p)

-- A script answers no due.
no_due_told : {P : Type 0} (r : Result ℕ RecordRefusal) (c : Change) → script_answer r ≡ answer.Due c → P
no_due_told (Ok done) c e = cc
no_due_told (Err f) c e = cc

-- Only an edit that was not refused answers a due.
due_of_edit : {R : Type 0} (a : Automaton) (s : Snapshot R) (k : Call) (o : Option Refusal) → o ≡ refusal_of a s k → (c : Change) → replied o (answer_done a s k) ≡ answer.Due c → EndsFirst a (text s.document) (text_of (left_by o (model_of s.document) (model_done a s k))) c
due_of_edit a s k (Some f) is c e = cc
due_of_edit a s (call.Edit from to bytes) None is c e =
    let same : edit_change a (text s.document) from to bytes.now ≡ c = cc in
    subst (λ (d : Change). EndsFirst a (text s.document) (text_of (model_done a s (call.Edit from to bytes))) d) same (edited_ends a (model_of s.document) s.screen from to bytes.now (sym is))
due_of_edit a s (call.Script records given) None is c e = no_due_told (script_result (script_of s records.now given.now)) c e
due_of_edit a s k None is c e = cc

pub names_its_end : {R : Type 0} (a : Automaton) (μ : Measure R) (s : Snapshot R) (e : Entry R) → Obeys a μ s e → NamesItsEnd a s e
names_its_end a μ s e obeys c is =
    subst (λ (m : Model). EndsFirst a (text s.document) (text_of m) c) (sym obeys.model_is) (due_of_edit a s e.call (refusal_of a s e.call) refl c (sym obeys.answer_is ∙ is))

-- The tree that memory holds is balanced and low, whatever happened.
pub balanced_tree : {R : Type 0} (T : ChunkTree R) → Balanced (tree_in T) × (height (tree_in T) ≤ 16)
balanced_tree T =
    let m = T.memory in
    let t = tree_of m T.root in
    let whole = whole_sound m T.root T.sound in
    (balanced_held nothing m t whole.holds, low_held nothing m whole.roomy t whole.holds (λ j. omega (arith, whole.all j)))

shows_then : (a : Automaton) (t screen : List ℕ) (due : Option Change) → ShownSo a t screen due → due ≡ None → ShowsText a t screen
shows_then a t screen None p e = p
shows_then a t screen (Some c) p e = cc

pub stands_so : {R : Type 0} (a : Automaton) (μ : Measure R) (s : Snapshot R) → Pending a s → Keeps s.document μ → Stands a μ s
stands_so a μ s p kept =
    let tree = balanced_tree s.document.tree in
    record {
      screen_shows_text = shows_then a (text s.document) s.screen (model_of s.document).due p;
      slots_keep_readings = kept;
      tree_is_balanced = tree.0;
      tree_is_low = tree.1;
    }

-- A new document shows its empty text on every screen.
empty_shown : (a : Automaton) (t screen : List ℕ) → t ≡ [] → ShowsText a t screen
empty_shown a t screen e = subst (λ l. ShowsText a l screen) (sym e) (record { wide = omega arith; cells = refl })

shown_new : (a : Automaton) (t screen : List ℕ) (due : Option Change) → due ≡ None → t ≡ [] → ShownSo a t screen due
shown_new a t screen due none e = subst (ShownSo a t screen) (sym none) (empty_shown a t screen e)

pub new_pending : {R : Type 0} (a : Automaton) (s : Snapshot R) → New s → Pending a s
new_pending a s new = shown_new a (text s.document) s.screen (model_of s.document).due new.no_due (ap joined (none_usable s.document.tree new.not_opened))

-- Behind every lawful log.
pub log_pending : {R : Type 0} (a : Automaton) (μ : Measure R) (first : Snapshot R) (log : List (Entry R)) → Follows a μ first log → Pending a (latest first log)
log_pending a μ first [] f = new_pending a first f.0
log_pending a μ first (e ∷ log) f = obeyed_pending a μ (latest first log) e f.1.0 (log_pending a μ first log f.0)

pub log_stands : {R : Type 0} (a : Automaton) (μ : Measure R) (first : Snapshot R) (log : List (Entry R)) → Follows a μ first log → Stands a μ (latest first log)
log_stands a μ first [] f = f.1
log_stands a μ first (e ∷ log) f = f.1.1.1.0

-- Behind each record of a script.
carried_pending : {R : Type 0} (a : Automaton) (given : List ℕ) (r : Replacement) (before after : Snapshot R) → Carried a given r before after → Pending a before → Pending a after
carried_pending a given r before after c p =
    let m = model_of before.document in
    pending_by a (recorded given m r) (model_of after.document) (record_painted a given m before.screen r) after.screen c.in_text.model_is c.screen_is
    (record_pending a given m before.screen r (length before.screen) refl c.in_text.accepted p)

steps_stand : {R : Type 0} (a : Automaton) (μ : Measure R) (given : List ℕ) (before : Snapshot R) (rs : List Replacement) (steps : List (Snapshot R)) (after : Snapshot R) →
    Stepwise (CarriedTo a given (λ s. Keeps s.document μ)) before rs steps after → Pending a before → Stepwise (CarriedTo a given (Stands a μ)) before rs steps after
steps_stand a μ given before rs [] after stepwise p = stepwise
steps_stand a μ given before [] (s ∷ steps) after stepwise p = absurd stepwise
steps_stand a μ given before (r ∷ rs) (s ∷ steps) after stepwise p =
    let here = carried_pending a given r before s stepwise.0.0 p in
    ((stepwise.0.0, stands_so a μ s here stepwise.0.1), steps_stand a μ given s rs steps after stepwise.1 here)

by_records : {R : Type 0} (a : Automaton) (μ : Measure R) (before : Snapshot R) (k : Call) (after : Snapshot R) → Pending a before → ByRecords a (λ s. Keeps s.document μ) before k after → ByRecords a (Stands a μ) before k after
by_records a μ before (call.Script records given) after p done = record {
  steps = done.steps;
  as_many = done.as_many;
  stepwise = steps_stand a μ given.now before records.now done.steps after done.stepwise p;
}
by_records a μ before k after p done = tt

-- One call more.
pub log_goes_on : {R : Type 0} (a : Automaton) (μ : Measure R) (first : Snapshot R) (log : List (Entry R)) (s : Snapshot R) (e : Entry R) → Follows a μ first log → latest first log ≡ s →
    (Keeps s.document μ → Obeys a μ s e) → (Keeps s.document μ → Keeps e.after.document μ) → (Keeps s.document μ → ByRecords a (λ t. Keeps t.document μ) s e.call e.after) → Follows a μ first (e ∷ log)
log_goes_on a μ first log s e f is obeys keeps records =
    let kept = subst (λ t. Keeps t.document μ) is (log_stands a μ first log f).slots_keep_readings in
    let p = log_pending a μ first log f in
    let done = subst (λ t. Obeys a μ t e) (sym is) (obeys kept) in
    let behind = obeyed_pending a μ (latest first log) e done p in
    let each = by_records a μ (latest first log) e.call e.after p (subst (λ t. ByRecords a (λ u. Keeps u.document μ) t e.call e.after) (sym is) (records kept)) in
    (f, (done, (names_its_end a μ (latest first log) e done, (stands_so a μ e.after behind (keeps kept), each))))
