-- A log that grows call by call, from a new document on.
use Rattle.std.proofs.Common.{◌≡◌, ℕ, List, [], ◌∷◌, ◌++◌, map, reverse, length, sym, refl, ap, ◌∙◌, subst, arith}
use Rattle.std.proofs.lemmas.List.{length-append, reverse-append, map-append}
use Rattle.automaton.specs.Automaton.{Automaton}
use Rattle.chunks.specs.Tree.{Tree, leaf, node, slots}
use Rattle.chunks.proofs.Footprint.{few_below}
use Rattle.measure.specs.Measure.{Measure}
use Rattle.model.specs.Model.{Model}
use Rattle.slots.specs.Claim.{kept}
use Rattle.slots.specs.Holds.{Holds}
use Rattle.slots.specs.Sound.{tree_of}
use Rattle.slots.proofs.Reading.{whole_sound}
use Rattle.tree.specs.declared.chunk_tree.ChunkTree.{ChunkTree}
use Rattle.tree.specs.Public.{usable_of, KeptBy}
use Rattle.document.specs.declared.call.Call.{Call}
use Rattle.document.specs.declared.call.Answer.{Answer}
use Rattle.document.specs.Content.{model_of}
use Rattle.document.specs.Snapshot.{Snapshot}
use Rattle.document.specs.Log.{Entry, New, latest, Follows, lent_of, Replayed}
use Rattle.document.proofs.Law.{new_pending, stands_so}

no_slots : (t : Tree) → length (slots t) ≡ 0 → t ≡ leaf
no_slots leaf e = refl
no_slots (node l i r) e = absurd (omega (arith, length-append (slots l) (i ∷ slots r)))

-- Where no slot is usable, none keeps a reading.
pub kept_none : {R : Type 0} (T : ChunkTree R) → usable_of T ≡ 0 → (μ : Measure R) → KeptBy T μ
kept_none T none μ =
    let m = T.memory in
    let t = tree_of m T.root in
    let whole = whole_sound m T.root T.sound in
    let bare = no_slots t (omega (arith, few_below m.usable (slots t) (λ j. omega (arith, whole.all j)))) in
    subst (Holds (kept μ) m) (sym bare) tt

module _ {R : Type 0} (a : Automaton) (μ : Measure R) where
  pub record Going (made : Model) (lent : List ℕ × List ℕ × R) (calls : List Call) (answers : List Answer) (here : Snapshot R) : Type 0 where
    pub first : Snapshot R
    pub made_of : model_of first.document ≡ made
    pub log : List (Entry R)
    pub follows : Follows a μ first log
    pub calls_are : map (λ e. e.call) (reverse log) ≡ calls
    pub answers_are : map (λ e. e.answer) (reverse log) ≡ answers
    pub begins_with : lent_of first ≡ lent
    pub comes_to : latest first log ≡ here

  pub begins : (made : Model) (s : Snapshot R) → model_of s.document ≡ made → New s → Going made (lent_of s) [] [] s
  begins made s is new = record {
    first = s;
    made_of = is;
    log = [];
    follows = (new, stands_so a μ s (new_pending a s new) (kept_none s.document.tree new.not_opened μ));
    calls_are = refl;
    answers_are = refl;
    begins_with = refl;
    comes_to = refl;
  }

  mapped_more : {Y : Type 0} (f : Entry R → Y) (e : Entry R) (log : List (Entry R)) → map f (reverse (e ∷ log)) ≡ map f (reverse log) ++ (f e ∷ [])
  mapped_more f e log = ap (map f) (reverse-append (e ∷ []) log) ∙ map-append f (reverse log) (e ∷ [])

  pub goes_on : (made : Model) (lent : List ℕ × List ℕ × R) (calls : List Call) (answers : List Answer) (here : Snapshot R) (e : Entry R) → Going made lent calls answers here →
      ((first : Snapshot R) (log : List (Entry R)) → Follows a μ first log → latest first log ≡ here → Follows a μ first (e ∷ log)) →
      (calls' : List Call) → calls' ≡ calls ++ (e.call ∷ []) → (answers' : List Answer) → answers' ≡ answers ++ (e.answer ∷ []) → Going made lent calls' answers' e.after
  goes_on made lent calls answers here e g step calls' more answers' told = record {
    first = g.first;
    made_of = g.made_of;
    log = e ∷ g.log;
    follows = step g.first g.log g.follows g.comes_to;
    calls_are = mapped_more (λ x. x.call) e g.log ∙ ap (λ l. l ++ (e.call ∷ [])) g.calls_are ∙ sym more;
    answers_are = mapped_more (λ x. x.answer) e g.log ∙ ap (λ l. l ++ (e.answer ∷ [])) g.answers_are ∙ sym told;
    begins_with = g.begins_with;
    comes_to = refl;
  }

  pub replayed : (made : Model) (lent : List ℕ × List ℕ × R) (calls : List Call) (answers : List Answer) (here : Snapshot R) → Going made lent calls answers here → Replayed a μ made calls answers lent (lent_of here)
  replayed made lent calls answers here g = record {
    first = g.first;
    made_of = g.made_of;
    log = g.log;
    follows = g.follows;
    calls_are = g.calls_are;
    answers_are = g.answers_are;
    begins_with = g.begins_with;
    leaves = ap lent_of g.comes_to;
  }
