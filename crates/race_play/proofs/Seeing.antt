-- What the servers see of questions, one after another.
use Rattle.std.proofs.Common.{◌≡◌, ◌∙◌, refl, sym, ap, subst, ℕ, suc, ◌+◌, ◌≤◌, List, [], ◌∷◌, ◌++◌, append-nil, append_assoc, length, length-append, inl, inr, arith}
use Rattle.std.specs.Prelude.{IfOk, IsErr, OnErr, Result, Ok, Err, Some, slice_get}
use Rattle.std.proofs.lemmas.Grind.{flat_map-append}
use Rattle.std.proofs.lemmas.List.{length-take}
use Rattle.query_plan.specs.declared.query.Query.{Query}
use Rattle.report_lines.specs.declared.lines.Line.{Line}
use Rattle.report_lines.specs.declared.lines.Line.TheVariants as lines
use Rattle.report_lines.specs.declared.lines.Who.{Who}
use Rattle.ring128.specs.declared.memory.Memory.{Memory}
use Rattle.table_schema.specs.declared.widths.Widths.{Widths}
use Rattle.visit_trace.specs.Expected.{trace_of}
use Rattle.visit_trace.specs.Growing.{grew_both, grew_nothing, prefix_begun, prefix_cut, prefix_none, prefix_whole, seen_joins, seen_then, then_nothing}
use Rattle.visit_trace.specs.Seen.{AddsPrefix, AllSeen, Grew, GrewPrefix, SawMore, SawPrefix, Seen, alike, nothing}
use Rattle.agreed_rows.specs.Answers.{sizes_over}
use Rattle.agreed_rows.specs.declared.query.Answered.{Answered}
use Rattle.waldo_table.specs.Asks.{AsksTrace, rows_of}
use Rattle.waldo_table.specs.Tables.{PassView}
use Rattle.waldo_table.specs.declared.faults.AskFault.{AskFault}
use Rattle.waldo_table.specs.declared.faults.AskFault.TheVariants as ask
use Rattle.race_play.specs.Heard.{JoinsFirst, JoinsHeard, JoinsSaid}
use Rattle.race_play.specs.Lines.{line_of_ask}
use Rattle.race_play.specs.Printed.{IsBackLine}
use Rattle.race_play.specs.Questions.{Question}
use Rattle.race_play.specs.Reports.{place_lines}
use Rattle.race_play.specs.Seen.{Notes, NotesAll, NotesFirst, NotesLine, all_questions, all_rounds, asked_seen, query_seen, report_seen, rounds_from, rows_answered, rows_said}
use Rattle.race_play.specs.Settings.{Setting, setting_of}
use Rattle.race_play.specs.declared.setting.Race.{Race}

-- ---- one part after another

-- what holds in any case holds where memory ran out
pub if_err : {T E : Type 0} (r : Result T E) (P : Type 0) → P → OnErr r P
if_err (Ok x) P p = tt
if_err (Err e) P p = p

-- ---- what was noted into a trace of nothing, and then behind another one

adds_less : {A : Type 0} (a b xs ys : List A) → AddsPrefix a b xs → AddsPrefix [] xs ys → AddsPrefix a b ys
adds_less {A} a b xs ys p q = record {
  added = p.added;
  left = p.left ++ q.left;
  now = p.now;
  all = sym (append_assoc p.added p.left q.left) ∙ ap (λ (l : List A). l ++ q.left) (p.all ∙ q.now) ∙ q.all;
}

saw_less : (a b p q : Seen) → SawPrefix a b p → SawPrefix nothing p q → SawPrefix a b q
saw_less a b p q e f = record {
  visits = adds_less a.visits b.visits p.visits q.visits e.visits f.visits;
  lengths = adds_less a.lengths b.lengths p.lengths q.lengths e.lengths f.lengths;
}

prefix_less : (a b p q : AllSeen) → GrewPrefix a b p → GrewPrefix (alike nothing) p q → GrewPrefix a b q
prefix_less a b p q e f = record {
  zero = saw_less a.zero b.zero p.zero q.zero e.zero f.zero;
  one = saw_less a.one b.one p.one q.one e.one f.one;
  two = saw_less a.two b.two p.two q.two e.two f.two;
}

saw_same : (a b p q : Seen) → SawMore a b p → SawMore nothing p q → SawMore a b q
saw_same a b p q e f = record {
  visits = e.visits ∙ ap (λ v. a.visits ++ v) f.visits;
  lengths = e.lengths ∙ ap (λ (l : List ℕ). a.lengths ++ l) f.lengths;
}

grew_same : (a b p q : AllSeen) → Grew a b p → Grew (alike nothing) p q → Grew a b q
grew_same a b p q e f = record {
  zero = saw_same a.zero b.zero p.zero q.zero e.zero f.zero;
  one = saw_same a.one b.one p.one q.one e.one f.one;
  two = saw_same a.two b.two p.two q.two e.two f.two;
}

-- ---- the trace of an ask

module _ (w : Widths) (q : PassView) (query : Query) (old new : AllSeen) (legal : q.floor ≤ length q.sight.order) where
  over_floor : trace_of (sizes_over (rows_of w q) query) ≡ query_seen w query q.floor
  over_floor = ap (query_seen w query) (let l = length-take q.floor q.sight.order in omega arith)

  line_at : (who : Who) (rows : ℕ) (asked : Result Answered AskFault) → rows ≡ q.floor → AsksTrace w q query old new asked
      → IfOk (line_of_ask who rows query.aggregate asked) (NotesLine w query q.floor old new)
  line_at who rows (Ok a) floor t = (ap (λ (n : ℕ). n ∷ []) floor, subst (Grew old new) over_floor t)
  line_at who rows (Err (ask.Altered total weighted)) floor t = (ap (λ (n : ℕ). n ∷ []) floor, subst (Grew old new) over_floor t)
  line_at who rows (Err (ask.Again k had least)) floor t = tt
  line_at who rows (Err ask.Memory) floor t = tt

  first_at : (who : Who) (rows : ℕ) (asked : Result Answered AskFault) → AsksTrace w q query old new asked
      → OnErr (line_of_ask who rows query.aggregate asked) (GrewPrefix old new (query_seen w query q.floor))
  first_at who rows (Ok a) t = tt
  first_at who rows (Err (ask.Altered total weighted)) t = tt
  first_at who rows (Err (ask.Again k had least)) t = subst (λ (s : AllSeen). GrewPrefix old s (query_seen w query q.floor)) (sym t) (prefix_none old (query_seen w query q.floor))
  first_at who rows (Err ask.Memory) t = subst (GrewPrefix old new) over_floor t

  pub line_notes : (who : Who) (rows : ℕ) (asked : Result Answered AskFault) (result : Result Line Memory) → rows ≡ q.floor → AsksTrace w q query old new asked
      → result ≡ line_of_ask who rows query.aggregate asked → IfOk result (NotesLine w query q.floor old new)
  line_notes who rows asked result floor t is = subst (λ (r : Result Line Memory). IfOk r (NotesLine w query q.floor old new)) (sym is) (line_at who rows asked floor t)

  pub line_first : (who : Who) (rows : ℕ) (asked : Result Answered AskFault) (result : Result Line Memory) → AsksTrace w q query old new asked
      → result ≡ line_of_ask who rows query.aggregate asked → OnErr result (GrewPrefix old new (query_seen w query q.floor))
  line_first who rows asked result t is = subst (λ (r : Result Line Memory). OnErr r (GrewPrefix old new (query_seen w query q.floor))) (sym is) (first_at who rows asked t)

-- ---- lines

answered_both : (said more : List Line) → rows_answered (said ++ more) ≡ rows_answered said ++ rows_answered more
answered_both said more = flat_map-append rows_said said more

-- ---- questions one after another

module _ (w : Widths) where
  asked_both : (xs ys : List Question) (ns ms : List ℕ) → length ns ≡ length xs → asked_seen w (xs ++ ys) (ns ++ ms) ≡ seen_then (asked_seen w xs ns) (asked_seen w ys ms)
  asked_both [] ys [] ms e = refl
  asked_both [] ys (n ∷ ns) ms e = absurd (omega (arith, e))
  asked_both (x ∷ xs) ys [] ms e = absurd (omega (arith, e))
  asked_both (x ∷ xs) ys (n ∷ ns) ms e =
      ap (seen_then (query_seen w x.query n)) (asked_both xs ys ns ms (omega (arith, e))) ∙ sym (seen_joins (query_seen w x.query n) (asked_seen w xs ns) (asked_seen w ys ms))

  asked_none : (xs : List Question) → asked_seen w xs [] ≡ alike nothing
  asked_none [] = refl
  asked_none (x ∷ xs) = refl

  -- questions without a number
  asked_few : (xs ys : List Question) (ns : List ℕ) → length ns ≤ length xs → asked_seen w (xs ++ ys) ns ≡ asked_seen w xs ns
  asked_few [] ys [] le = asked_none ys
  asked_few [] ys (n ∷ ns) le = absurd (omega (arith, le))
  asked_few (x ∷ xs) ys [] le = refl
  asked_few (x ∷ xs) ys (n ∷ ns) le = ap (seen_then (query_seen w x.query n)) (asked_few xs ys ns (omega (arith, le)))

  asked_single : (x : Question) (n : ℕ) → asked_seen w (x ∷ []) (n ∷ []) ≡ query_seen w x.query n
  asked_single x n = ap alike (then_nothing (query_seen w x.query n).zero)

  -- no question
  pub notes_none : (t : AllSeen) → NotesAll w [] [] t t
  notes_none t = record { each = refl; grew = grew_nothing t }

  -- some questions and then others
  notes_both : (xs ys : List Question) (own more : List Line) (a b d : AllSeen) → NotesAll w xs own a b
      → length (rows_answered more) ≡ length ys → Grew b d (asked_seen w ys (rows_answered more)) → NotesAll w (xs ++ ys) (own ++ more) a d
  notes_both xs ys own more a b d p each grew = record {
    each = ap length (answered_both own more) ∙ length-append (rows_answered own) (rows_answered more)
        ∙ ap (λ (n : ℕ). n + length (rows_answered more)) p.each ∙ ap (λ (n : ℕ). length xs + n) each ∙ sym (length-append xs ys);
    grew = subst (Grew a d) (sym (ap (asked_seen w (xs ++ ys)) (answered_both own more) ∙ asked_both xs ys (rows_answered own) (rows_answered more) p.each))
        (grew_both a b d (asked_seen w xs (rows_answered own)) (asked_seen w ys (rows_answered more)) p.grew grew);
  }

  pub notes_then : (xs ys : List Question) (own more : List Line) (a b d : AllSeen) → NotesAll w xs own a b → NotesAll w ys more b d → NotesAll w (xs ++ ys) (own ++ more) a d
  notes_then xs ys own more a b d p q = notes_both xs ys own more a b d p q.each q.grew

  -- one question more
  pub notes_more : (xs : List Question) (x : Question) (said more : List Line) (line : Line) (n : ℕ) (a b d : AllSeen) → NotesAll w xs said a b
      → NotesLine w x.query n b d line → more ≡ said ++ line ∷ [] → NotesAll w (xs ++ x ∷ []) more a d
  notes_more xs x said more line n a b d p h is =
      let one : rows_answered (line ∷ []) ≡ n ∷ [] = append-nil (rows_said line) ∙ h.0 in
      subst (λ (l : List Line). NotesAll w (xs ++ x ∷ []) l a d) (sym is)
      (notes_both xs (x ∷ []) said (line ∷ []) a b d p (ap length one) (subst (Grew b d) (sym (ap (asked_seen w (x ∷ [])) one ∙ asked_single x n)) h.1))

  -- ---- memory runs out

  -- before any question
  pub first_none : (xs : List Question) (t : AllSeen) → NotesFirst w xs t t
  first_none xs t = record { rows = []; few = omega arith; grew = prefix_none t (asked_seen w xs []) }

  -- behind some questions
  pub first_all : (xs : List Question) (said : List Line) (a b : AllSeen) → NotesAll w xs said a b → NotesFirst w xs a b
  first_all xs said a b p = record { rows = rows_answered said; few = omega (arith, p.each); grew = prefix_whole a b (asked_seen w xs (rows_answered said)) p.grew }

  -- others are not asked
  pub first_more : (xs ys : List Question) (a b : AllSeen) → NotesFirst w xs a b → NotesFirst w (xs ++ ys) a b
  first_more xs ys a b p = record {
    rows = p.rows;
    few = let l = length-append xs ys in let f = p.few in omega arith;
    grew = subst (GrewPrefix a b) (sym (asked_few xs ys p.rows p.few)) p.grew;
  }

  pub first_stopped : (all xs rest : List Question) (said : List Line) (a b : AllSeen) → NotesAll w xs said a b → all ≡ xs ++ rest → NotesFirst w all a b
  first_stopped all xs rest said a b p is = subst (λ (l : List Question). NotesFirst w l a b) (sym is) (first_more xs rest a b (first_all xs said a b p))

  -- some questions, and the first of others
  pub first_behind : (xs ys : List Question) (said : List Line) (a b d : AllSeen) → NotesAll w xs said a b → NotesFirst w ys b d → NotesFirst w (xs ++ ys) a d
  first_behind xs ys said a b d p q = record {
    rows = rows_answered said ++ q.rows;
    few = let l = length-append xs ys in let m = length-append (rows_answered said) q.rows in let e = p.each in let f = q.few in omega arith;
    grew = subst (GrewPrefix a d) (sym (asked_both xs ys (rows_answered said) q.rows p.each))
        (prefix_begun a b d (asked_seen w xs (rows_answered said)) (asked_seen w ys q.rows) p.grew q.grew);
  }

  -- in the next question
  pub first_broken : (all xs rest : List Question) (x : Question) (said : List Line) (n : ℕ) (a b d : AllSeen) → NotesAll w xs said a b
      → GrewPrefix b d (query_seen w x.query n) → all ≡ xs ++ x ∷ rest → NotesFirst w all a d
  first_broken all xs rest x said n a b d p broke is =
      subst (λ (l : List Question). NotesFirst w l a d) (sym is)
      (first_behind xs (x ∷ rest) said a b d p (record { rows = n ∷ []; few = omega arith; grew = prefix_cut b d (query_seen w x.query n) (asked_seen w rest []) broke }))

  pub notes_first : (xs : List Question) (a b : AllSeen) (r : Result (List Line) Memory) → Notes w xs a b r → NotesFirst w xs a b
  notes_first xs a b (Ok said) h = first_all xs said a b h
  notes_first xs a b (Err e) h = h

  pub notes_failed : (xs : List Question) (a b : AllSeen) (r : Result (List Line) Memory) → IsErr r → NotesFirst w xs a b → Notes w xs a b r
  notes_failed xs a b (Ok said) failed h = absurd cc
  notes_failed xs a b (Err e) failed h = h

  -- ---- an asker, and others behind it, which noted into a trace of their own

  at_ok : (xs : List Question) (a b : AllSeen) (r : Result (List Line) Memory) (said : List Line) → r ≡ Ok said → Notes w xs a b r → NotesAll w xs said a b
  at_ok xs a b r said is h = subst (Notes w xs a b) is h

  at_err : (xs : List Question) (a b : AllSeen) (r : Result (List Line) Memory) → IsErr r → Notes w xs a b r → NotesFirst w xs a b
  at_err xs a b (Ok said) failed h = absurd cc
  at_err xs a b (Err e) failed h = h

  joined_ok : (xs ys : List Question) (a b d behind : AllSeen) (first others : Result (List Line) Memory) (said : List Line) → Notes w xs a b first → Notes w ys (alike nothing) behind others
      → JoinsSaid first others said → Grew b d behind → NotesAll w (xs ++ ys) said a d
  joined_ok xs ys a b d behind first others said p q joined grew =
      let more = at_ok ys (alike nothing) behind others joined.1 joined.3 q in
      subst (λ (l : List Line). NotesAll w (xs ++ ys) l a d) (sym joined.4)
      (notes_both xs ys joined.0 joined.1 a b d (at_ok xs a b first joined.0 joined.2 p) more.each
      (grew_same b d behind (asked_seen w ys (rows_answered joined.1)) grew more.grew))

  joined_first : (xs ys : List Question) (a b d behind : AllSeen) (first others : Result (List Line) Memory) → Notes w xs a b first → Notes w ys (alike nothing) behind others
      → JoinsFirst first b behind d → NotesFirst w (xs ++ ys) a d
  joined_first xs ys a b d behind first others p q broken = elim broken [
    | inl none ↦ subst (λ (t : AllSeen). NotesFirst w (xs ++ ys) a t) (sym none.0) (first_more xs ys a b (at_err xs a b first none.1 p))
    | inr some ↦ (
        let f = notes_first ys (alike nothing) behind others q in
        first_behind xs ys some.0 a b d (at_ok xs a b first some.0 some.1 p)
        (record { rows = f.rows; few = f.few; grew = prefix_less b d behind (asked_seen w ys f.rows) some.2 f.grew }))
  ]

  pub notes_beside : (xs ys : List Question) (a b d behind : AllSeen) (first others result : Result (List Line) Memory) → Notes w xs a b first → Notes w ys (alike nothing) behind others
      → JoinsHeard b first behind others d result → Notes w (xs ++ ys) a d result
  notes_beside xs ys a b d behind first others (Ok said) p q j = joined_ok xs ys a b d behind first others said p q j.said j.trace
  notes_beside xs ys a b d behind first others (Err e) p q j = joined_first xs ys a b d behind first others p q j.trace_first

  -- what all askers noted into a trace of their own is noted behind another one
  pub notes_noted : (xs : List Question) (a d behind : AllSeen) (heard result : Result (List Line) Memory) → Notes w xs (alike nothing) behind heard
      → IfOk result (λ said. heard ≡ Ok said) → IfOk result (λ _. Grew a d behind) → OnErr result (GrewPrefix a d behind) → Notes w xs a d result
  notes_noted xs a d behind heard (Ok said) p is grew broken =
      let all = at_ok xs (alike nothing) behind heard said is p in
      record { each = all.each; grew = grew_same a d behind (asked_seen w xs (rows_answered said)) grew all.grew }
  notes_noted xs a d behind heard (Err e) p is grew broken =
      let f = notes_first xs (alike nothing) behind heard p in
      record { rows = f.rows; few = f.few; grew = prefix_less a d behind (asked_seen w xs f.rows) broken f.grew }

-- what the askers of a race noted, in the widths of the race
pub rounds_noted : (w : Widths) (race : Race) (a d behind : AllSeen) (heard result : Result (List Line) Memory) → w ≡ race.widths
    → (count : ℕ) × (count + 0 ≡ race.crew.askers) × Notes w (rounds_from race.queries.now race.master race.crew.rounds 0 count) (alike nothing) behind heard
    → IfOk result (λ said. heard ≡ Ok said) → IfOk result (λ _. Grew a d behind) → OnErr result (GrewPrefix a d behind)
    → Notes race.widths (all_rounds (setting_of race)) a d result
rounds_noted w race a d behind heard result same seen is grew broken =
    let all : seen.0 ≡ race.crew.askers = let n = seen.1 in omega arith in
    subst (λ (v : Widths). Notes v (all_rounds (setting_of race)) a d result) same
    (subst (λ (n : ℕ). Notes w (rounds_from race.queries.now race.master race.crew.rounds 0 n) a d result) all
    (notes_noted w (rounds_from race.queries.now race.master race.crew.rounds 0 seen.0) a d behind heard result seen.2 is grew broken))

-- ---- the lines of a report

places_none : (place : ℕ) (order : List ℕ) → rows_answered (place_lines place order) ≡ []
places_none place [] = refl
places_none place (i ∷ order) = places_none (suc place) order

back_none : (n writers : ℕ) (order : List ℕ) (w : ℕ) (line : Line) → IsBackLine n writers order w line → rows_said line ≡ []
back_none n writers order w (lines.Answer by rows aggregate total) h = absurd h
back_none n writers order w (lines.Altered by rows total weighted) h = absurd h
back_none n writers order w (lines.Again by server had floor) h = refl
back_none n writers order w (lines.Draw actor place) h = refl
back_none n writers order w (lines.Look actor server prefix) h = refl
back_none n writers order w (lines.Rows count) h = refl
back_none n writers order w (lines.Place place row) h = refl
back_none n writers order w (lines.Back writer rows) h = refl
back_none n writers order w (lines.BackAgain writer server had floor) h = refl
back_none n writers order w (lines.Trace index server visits words) h = refl
back_none n writers order w (lines.Tree low high total nodes) h = refl
back_none n writers order w (lines.TreeAltered total weighted) h = refl
back_none n writers order w (lines.BadWord index) h = refl
back_none n writers order w (lines.Missing name) h = refl
back_none n writers order w (lines.BadStep index) h = refl
back_none n writers order w lines.ReadFault h = refl
back_none n writers order w lines.TooLong h = refl
back_none n writers order w lines.Header h = refl
back_none n writers order w (lines.BadRecord number why) h = refl
back_none n writers order w (lines.TooMany capacity) h = refl
back_none n writers order w (lines.TooFew wanted) h = refl
back_none n writers order w (lines.Group index bucket rows aggregate total) h = refl
back_none n writers order w (lines.GroupAltered index bucket total weighted) h = refl

backs_none : (n writers : ℕ) (order : List ℕ) (from : ℕ) (said : List Line) → ((w : ℕ) (line : Line) → slice_get said w ≡ Some line → IsBackLine n writers order (from + w) line)
    → rows_answered said ≡ []
backs_none n writers order from [] each = refl
backs_none n writers order from (line ∷ said) each =
    ap (λ (l : List ℕ). l ++ rows_answered said) (back_none n writers order (from + 0) line (each 0 line refl))
    ∙ backs_none n writers order (suc from) said (λ w l at. let z : from + suc w ≡ suc from + w = omega arith in subst (λ (k : ℕ). IsBackLine n writers order k l) z (each (suc w) l at))

-- the numbers of rows that a report says are those of the askers' lines, and then those of the last queries
report_rows : (n writers : ℕ) (order : List ℕ) (backs asks ends said : List Line) → said ≡ lines.Rows (length order) ∷ place_lines 0 order ++ backs ++ asks ++ ends
    → ((w : ℕ) (line : Line) → slice_get backs w ≡ Some line → IsBackLine n writers order w line) → rows_answered said ≡ rows_answered (asks ++ ends)
report_rows n writers order backs asks ends said text each =
    ap rows_answered text
    ∙ answered_both (place_lines 0 order ++ backs ++ asks) ends
    ∙ ap (λ (l : List ℕ). l ++ rows_answered ends) (answered_both (place_lines 0 order ++ backs) asks)
    ∙ ap (λ (l : List ℕ). (l ++ rows_answered asks) ++ rows_answered ends) (answered_both (place_lines 0 order) backs)
    ∙ ap (λ (l : List ℕ). ((l ++ rows_answered backs) ++ rows_answered asks) ++ rows_answered ends) (places_none 0 order)
    ∙ ap (λ (l : List ℕ). (l ++ rows_answered asks) ++ rows_answered ends)
    (backs_none n writers order 0 backs (λ w line at. let z : w ≡ 0 + w = omega arith in subst (λ (k : ℕ). IsBackLine n writers order k line) z (each w line at)))
    ∙ sym (answered_both asks ends)

-- a trace grew by what the servers see of a report
pub report_grew : (s : Setting) (order : List ℕ) (backs asks ends said : List Line) (a d : AllSeen) → NotesAll s.widths (all_questions s) (asks ++ ends) a d
    → ((w : ℕ) (line : Line) → slice_get backs w ≡ Some line → IsBackLine (length s.rows) s.writers order w line)
    → said ≡ lines.Rows (length order) ∷ place_lines 0 order ++ backs ++ asks ++ ends → Grew a d (report_seen s said)
report_grew s order backs asks ends said a d all each text =
    subst (λ (ns : List ℕ). Grew a d (asked_seen s.widths (all_questions s) ns)) (sym (report_rows (length s.rows) s.writers order backs asks ends said text each)) all.grew
