-- The lines of an input are read off its front one by one, and what they do is added to what was done before.
use Rattle.std.proofs.Common.{◌≡◌, ◌≢◌, ℕ, ◌+◌, ◌-◌, ◌^◌, ◌<◌, ◌≤◌, Bool, true, false, eqb, cond, ◌&&◌, List, [], ◌∷◌, ◌++◌, None, Some, Option, Ok, Err, IfSome, is_ok, length, take, drop, get_or, refl, sym, ap, subst, subst₂, ◌∙◌, arith, length-append, append-nil, append_assoc, take_all}
use Rattle.std.proofs.BufReadLemmas.{take_through_nonempty}
use Rattle.std.proofs.KnownBytes.{Appends-nil, Appends-trans}
use Rattle.std.proofs.lemmas.Bool.{eqb-true, eqb-false}
use Rattle.std.proofs.lemmas.Grind.{get_or_default_zero}
use Rattle.std.proofs.lemmas.List.{take_more}
use Rattle.std.proofs.Math.Bool.{and_assoc, and-true}
use Rattle.std.proofs.Math.Seq.{get_or-append_seam, take-append_seam}
use Rattle.std.specs.Io.BufRead.{take_through, drop_through, DropsThrough}
use Rattle.std.specs.Io.KnownBytes.{Appends, IsAtEnd}
use Rattle.automaton.specs.Automaton.{Automaton}
use Rattle.measure.specs.Measure.{Measure}
use Rattle.document.specs.Snapshot.{Snapshot}
use Rattle.session.specs.declared.request.Request.{Request}
use Rattle.session.specs.Asked.{Asked, Reading, meaning}
use Rattle.session.specs.Request.{request_of}
use Rattle.hosting.specs.Replies.{Readings}
use Rattle.hosting.specs.Conversing.{with_first, lines_of, most_lines, Answered, Conversed, all_readable, Conversation, AnswersLine, ReadsLines}

-- What is read through the first line feed, but for the line feed, is the first line.
abbrev LineAt : List ℕ → Type 0
LineAt xs = (line : List ℕ) → take_through 10 xs ≡ line ++ 10 ∷ [] → lines_of xs ≡ line ∷ lines_of (drop_through 10 xs)

line_at_more : (x : ℕ) (xs line : List ℕ) (b : Bool) → eqb x 10 ≡ b → LineAt xs → cond b (x ∷ []) (x ∷ take_through 10 xs) ≡ line ++ 10 ∷ []
    → cond b ([] ∷ lines_of xs) (with_first x (lines_of xs)) ≡ line ∷ lines_of (cond b xs (drop_through 10 xs))
line_at_more x xs [] true q below e = refl
line_at_more x xs (l ∷ ls) true q below e = absurd (omega (arith, ap length e, length-append ls (10 ∷ [])))
line_at_more x xs [] false q below e = absurd (eqb-false x 10 q (ap (λ l. get_or l 0 0) e))
line_at_more x xs (l ∷ ls) false q below e =
    ap (with_first x) (below ls (ap (drop 1) e)) ∙ ap (λ y. (y ∷ ls) ∷ lines_of (drop_through 10 xs)) (ap (λ k. get_or k 0 0) e)

line_at : (xs : List ℕ) → LineAt xs
line_at [] line e = absurd (omega (arith, ap length e, length-append line (10 ∷ [])))
line_at (x ∷ xs) line e = line_at_more x xs line (eqb x 10) refl (line_at xs) e

-- Where no line feed is read, what is read is the last line.
abbrev LastAt : List ℕ → Type 0
LastAt xs = ((line : List ℕ) → take_through 10 xs ≡ line ++ 10 ∷ [] → ⊥) → lines_of xs ≡ take_through 10 xs ∷ lines_of (drop_through 10 xs)

last_at_more : (x : ℕ) (xs : List ℕ) (b : Bool) → eqb x 10 ≡ b → (0 < length xs → LastAt xs) → ((line : List ℕ) → cond b (x ∷ []) (x ∷ take_through 10 xs) ≡ line ++ 10 ∷ [] → ⊥)
    → cond b ([] ∷ lines_of xs) (with_first x (lines_of xs)) ≡ cond b (x ∷ []) (x ∷ take_through 10 xs) ∷ lines_of (cond b xs (drop_through 10 xs))
last_at_more x xs true q below none = absurd (none [] (ap (λ y. y ∷ []) (eqb-true x 10 q)))
last_at_more x [] false q below none = refl
last_at_more x (y ∷ ys) false q below none = ap (with_first x) (below (omega arith) (λ line e. none (x ∷ line) (ap (λ l. x ∷ l) e)))

last_at : (xs : List ℕ) → 0 < length xs → LastAt xs
last_at [] some none = absurd (omega (arith, some))
last_at (x ∷ xs) some none = last_at_more x xs (eqb x 10) refl (λ more. last_at xs more) none

ends_so : (read line : List ℕ) → read ≡ line ++ 10 ∷ [] → get_or read (length read - 1) 0 ≡ 10
ends_so read line e =
    let at : length read - 1 ≡ length line = omega (arith, ap length e, length-append line (10 ∷ [])) in
    ap (λ n. get_or read n 0) at ∙ ap (λ l. get_or l (length line) 0) e ∙ get_or-append_seam line 10 [] 0

-- The last byte, as it is looked at.
last_byte : (read : List ℕ) (count last : ℕ) → last ≡ get_or read (count - 1) last → count ≡ length read → count ≢ 0 → last ≡ get_or read (length read - 1) 0
last_byte read count last there counted some = there ∙ ap (λ n. get_or read (n - 1) last) counted ∙ get_or_default_zero read (length read - 1) last (omega (arith, counted, some))

-- A line that was read with its line feed, and one that was read without one, into a place that was empty.
pub reads_line : (input left : Option (List ℕ)) (place read line : List ℕ) (long count last : ℕ) → line ≡ take (long - 1) read → IfSome input (λ xs. read ≡ place ++ take_through 10 xs) → DropsThrough input left 10
    → last ≡ get_or read (count - 1) last → place ≡ [] → long ≡ length read → count ≡ length read → count ≢ 0 → last ≡ 10 → ReadsLines input left (line ∷ [])
reads_line None left place read line long count last cut is rest there empty whole counted some feed = tt
reads_line (Some xs) left place read line long count last cut is rest there empty whole counted some feed =
    let n = length read in
    let split : read ≡ take (n - 1) read ++ get_or read (n - 1) 0 ∷ [] = sym (take_all (n - 1 + 1) read (omega (arith, counted, some))) ∙ take_more read (n - 1) 0 (omega (arith, counted, some)) in
    let ends : read ≡ line ++ 10 ∷ [] =
    split ∙ ap (λ b. take (n - 1) read ++ b ∷ []) (sym (last_byte read count last there counted some) ∙ feed) ∙ ap (λ l. l ++ 10 ∷ []) (ap (λ k. take (k - 1) read) (sym whole) ∙ sym cut) in
    subst (λ l. ReadsLines (Some xs) l (line ∷ [])) (sym rest) (line_at xs line (sym (is ∙ ap (λ l. l ++ take_through 10 xs) empty) ∙ ends))

pub reads_last : (input left : Option (List ℕ)) (place read : List ℕ) (count last : ℕ) → place ≡ [] → IfSome input (λ xs. read ≡ place ++ take_through 10 xs) → DropsThrough input left 10
    → last ≡ get_or read (count - 1) last → count ≡ length read → count ≢ 0 → last ≢ 10 → ReadsLines input left (read ∷ [])
reads_last None left place read count last empty is rest there counted some other = tt
reads_last (Some xs) left place read count last empty is rest there counted some other =
    let all : read ≡ take_through 10 xs = is ∙ ap (λ l. l ++ take_through 10 xs) empty in
    let long : 0 < length (take_through 10 xs) = omega (arith, ap length all, counted, some) in
    subst (λ l. ReadsLines (Some xs) left (l ∷ [])) (sym all) (subst (λ l. ReadsLines (Some xs) l (take_through 10 xs ∷ [])) (sym rest)
    (last_at xs (take_through_nonempty 10 xs long) (λ line e. other (last_byte read count last there counted some ∙ ends_so read line (all ∙ e)))))

reads_none : (input : Option (List ℕ)) → ReadsLines input input []
reads_none None = tt
reads_none (Some xs) = refl

reads_more : (input left others : Option (List ℕ)) (lines : List (List ℕ)) (line : List ℕ) → ReadsLines input left lines → ReadsLines left others (line ∷ []) → ReadsLines input others (lines ++ line ∷ [])
reads_more None left others lines line p q = tt
reads_more (Some xs) None others lines line p q = absurd p
reads_more (Some xs) (Some ys) None lines line p q = absurd q
reads_more (Some xs) (Some ys) (Some zs) lines line p q = p ∙ ap (λ l. lines ++ l) q ∙ sym (append_assoc lines (line ∷ []) (lines_of zs))

pub same_read : (read : Reading Request) → is_ok read ≡ is_ok (meaning read)
same_read (Ok request) = refl
same_read (Err problem) = refl

readable_more : (lines : List (List ℕ)) (line : List ℕ) → all_readable (lines ++ line ∷ []) ≡ (all_readable lines && is_ok (request_of line))
readable_more [] line = and-true (is_ok (request_of line))
readable_more (first ∷ lines) line = ap (λ b. is_ok (request_of first) && b) (readable_more lines line) ∙ sym (and_assoc (is_ok (request_of first)) (all_readable lines) (is_ok (request_of line)))

-- The lines that were read are all of the input, where nothing is left of it, or as many of them as have a number.
all_read : (input left : Option (List ℕ)) (lines : List (List ℕ)) → ReadsLines input left lines → IsAtEnd left → length lines ≤ most_lines → IfSome input (λ xs. lines ≡ take most_lines (lines_of xs))
all_read None left lines p end few = tt
all_read (Some xs) None lines p end few = absurd p
all_read (Some xs) (Some ys) lines p end few = sym (ap (take most_lines) (p ∙ ap (λ l. lines ++ lines_of l) end ∙ append-nil lines) ∙ take_all most_lines lines few)

most_read : (input left : Option (List ℕ)) (lines : List (List ℕ)) → ReadsLines input left lines → length lines ≡ most_lines → IfSome input (λ xs. lines ≡ take most_lines (lines_of xs))
most_read None left lines p most = tt
most_read (Some xs) None lines p most = absurd p
most_read (Some xs) (Some ys) lines p most = sym (ap (take most_lines) p ∙ ap (λ n. take n (lines ++ lines_of ys)) (sym most) ∙ take-append_seam lines (lines_of ys))

module _ {X : Type 0} (a : Automaton) (μ : Measure (Readings X)) where
  conversed_more : (n m : ℕ) (lines : List (List ℕ)) (line : List ℕ) (before here after : Snapshot (Readings X)) (written more : List ℕ) → m ≡ n + length lines →
      Conversed a μ n lines before here written → Answered a μ m (request_of line) here after more → Conversed a μ n (lines ++ line ∷ []) before after (written ++ more)
  conversed_more n m [] line before here after written more at so step =
      let there : m ≡ n = omega (arith, at) in
      let one = subst₂ (λ k s. Answered a μ k (request_of line) s after more) there so.0 step in
      (after, more, [], (one, ((refl, refl), ap (λ l. l ++ more) so.1 ∙ sym (append-nil more))))
  conversed_more n m (first ∷ lines) line before here after written more at so step =
      let (between, told, others, (one, (rest, is))) = so in
      (between, told, others ++ more, (one, (conversed_more (n + 1) m lines line between here after others more (omega (arith, at)) rest step, ap (λ l. l ++ more) is ∙ append_assoc told others more)))

  -- A conversation as far as it has come: the next line has that number.
  pub record Going (input left held holds : Option (List ℕ)) (before here : Snapshot (Readings X)) (number : ℕ) (readable : Bool) : Type 0 where
    pub lines : List (List ℕ)
    pub written : List ℕ
    pub reads : ReadsLines input left lines
    pub count : number ≡ length lines + 1
    pub conversed : Conversed a μ 1 lines before here written
    pub readable_is : readable ≡ all_readable lines
    pub appends : Appends held holds written

  pub begins : (input held : Option (List ℕ)) (s : Snapshot (Readings X)) → Going input input held held s s 1 true
  begins input held s = record { lines = []; written = []; reads = reads_none input; count = refl; conversed = (refl, refl); readable_is = refl; appends = Appends-nil held }

  -- One line more.
  pub goes_on : (input left held holds : Option (List ℕ)) (before here : Snapshot (Readings X)) (number : ℕ) (readable : Bool) → Going input left held holds before here number readable →
      (others reaches : Option (List ℕ)) (after : Snapshot (Readings X)) (line : List ℕ) → ReadsLines left others (line ∷ []) →
      (own : ℕ) (read : Reading Asked) → own ≡ number → read ≡ request_of line → AnswersLine a μ own read here after holds reaches →
      (next : ℕ) (all : Bool) → next ≡ number + 1 → all ≡ (readable && is_ok (request_of line)) → Going input others held reaches before after next all
  goes_on input left held holds before here number readable so others reaches after line one own read at is told next all counts both =
      let answers = subst₂ (λ n r. AnswersLine a μ n r here after holds reaches) at is told in
      record {
        lines = so.lines ++ line ∷ [];
        written = so.written ++ answers.0;
        reads = reads_more input left others so.lines line so.reads one;
        count = omega (arith, counts, so.count, length-append so.lines (line ∷ []));
        conversed = conversed_more 1 number so.lines line before here after so.written answers.0 (omega (arith, so.count)) so.conversed answers.1.0;
        readable_is = both ∙ ap (λ b. b && is_ok (request_of line)) so.readable_is ∙ sym (readable_more so.lines line);
        appends = Appends-trans held holds reaches so.written answers.0 so.appends answers.1.1;
      }

  pub ends : (input left held holds : Option (List ℕ)) (before here : Snapshot (Readings X)) (number : ℕ) (readable : Bool) → Going input left held holds before here number readable →
      IsAtEnd left → number < 2 ^ 64 → Conversation a μ input held holds before here readable
  ends input left held holds before here number readable so end few = record {
    lines = so.lines;
    written = so.written;
    lines_are = all_read input left so.lines so.reads end (omega (arith, so.count, few));
    conversed = so.conversed;
    readable_is = so.readable_is;
    appends = so.appends;
  }

  pub runs_out : (input left held holds : Option (List ℕ)) (before here : Snapshot (Readings X)) (number : ℕ) (readable : Bool) → Going input left held holds before here number readable →
      number ≡ 2 ^ 64 - 1 → Conversation a μ input held holds before here readable
  runs_out input left held holds before here number readable so most = record {
    lines = so.lines;
    written = so.written;
    lines_are = most_read input left so.lines so.reads (omega (arith, so.count, most));
    conversed = so.conversed;
    readable_is = so.readable_is;
    appends = so.appends;
  }
