-- Queries of which some had their messages received as they were sent: the lines of these are plain, whatever was altered in the others.
use Rattle.std.proofs.Common.{◌≡◌, ◌∙◌, refl, sym, ap, subst, ℕ, ℤ, zero, suc, ◌+◌, ◌*◌, Bool, false, ◌||◌, Option, Some, None, Result, Ok, Err, List, [], ◌∷◌, ◌++◌, length, slice_get, min, IfSome, IsSomeAnd, arith, append-nil}
use Rattle.std.specs.List.{flat_map, range_with_len}
use Rattle.std.proofs.lemmas.Bool.{le-ltb}
use Rattle.std.proofs.lemmas.Option.{same_Some}
use Rattle.prg_chacha.specs.Prg.{derive_of}
use Rattle.prg_chacha.specs.declared.seed.Seed.{Seed}
use Rattle.query_plan.specs.declared.query.Query.{Query}
use Rattle.report_lines.specs.declared.lines.Line.{Line}
use Rattle.server_rounds.specs.declared.opened.OpenedPair.{OpenedPair}
use Rattle.table_schema.specs.declared.rows.Row.{Row}
use Rattle.table_schema.specs.declared.widths.Widths.{Widths}
use Rattle.transcript.specs.Laws.{PlainIsSmall}
use Rattle.transcript.specs.Plain.{plain as plain_answer}
use Rattle.weighted_check.specs.declared.Altered.{Altered}
use Rattle.wire_line.specs.Messages.{IsHonest}
use Rattle.waldo_core.specs.Answers.{plain_pair}
use Rattle.waldo_core.specs.Core.{Actor, Fixes, prefix}
use Rattle.waldo_core.specs.Core.Fixes.{Unfixed, First, Second, Agreed}
use Rattle.waldo_words.specs.declared.schedule.Step.{Step}
use Rattle.waldo_words.specs.declared.schedule.Step.TheVariants as steps
use Rattle.schedule_play.specs.History.{Done, HasHistory, IsHistory, messages_at, nothing_opened, pair_at}
use Rattle.schedule_play.specs.Plain.{ArePlain, IsPlainOf}
use Rattle.schedule_play.specs.Stages.{Stage, event_of, first_stage, next_stage}
use Rattle.schedule_play.specs.Tasks.{Setting, append_steps, ask_steps, asking}
use Rattle.schedule_play.specs.Laws.{AskedHonestly, AskedInOrder, EndsInLines, HasLine, asked_lines, checked_line, messages_of_query, pair_of_query}
use Rattle.schedule_play.specs.declared.style.Style.TheVariants.{Queries}
use Rattle.schedule_play.proofs.AppendedRows.{Goes, all_entries, all_go, all_numbers, other_actors, other_rounds, with_rows}
use Rattle.schedule_play.proofs.AskedPlain.{plain_verdict}
use Rattle.schedule_play.proofs.AskedQueries.{IsIdle, answers, check_of, is_refused, or_none, with_fixes}
use Rattle.schedule_play.proofs.Loops.{length-parts}
use Rattle.schedule_play.proofs.RowNumbers.{prefix-numbers_below}

-- a history behind its first step
record Ahead (w : Widths) (s : Setting) (stage : Stage) (next : OpenedPair → Stage) (x : Step) (xs : List Step) (ds : List Done) : Type 0 where
  first : Done
  rest : List Done
  are : ds ≡ first ∷ rest
  here : IsHonest first.messages → IsPlainOf stage (event_of s stage x) first.pair
  history : IsHistory w s Queries (next first.pair) xs rest
  plain : ArePlain s Queries (next first.pair) rest

-- a history behind some steps
record Behind (w : Widths) (s : Setting) (end : Stage) (ys : List Step) (ds : List Done) (n : ℕ) : Type 0 where
  rest : List Done
  pairs : (k : ℕ) → pair_at ds (n + k) ≡ pair_at rest k
  messages : (k : ℕ) → messages_at ds (n + k) ≡ messages_at rest k
  history : IsHistory w s Queries end ys rest
  plain : ArePlain s Queries end rest

module _ (w : Widths) (s : Setting) where
  ahead : (stage : Stage) (next : OpenedPair → Stage) (x : Step) (xs : List Step) (ds : List Done) → ((pair : OpenedPair) → next_stage s Queries stage x pair ≡ Some (next pair))
      → IsHistory w s Queries stage (x ∷ xs) ds → ArePlain s Queries stage ds → Ahead w s stage next x xs ds
  ahead stage next x xs [] goes h p =
      let clash : ◌≡◌ {A = Option Stage} None (Some (next nothing_opened)) = sym (h nothing_opened) ∙ goes nothing_opened in absurd cc
  ahead stage next x xs (d ∷ ds) goes h p = record {
    first = d;
    rest = ds;
    are = refl;
    here = λ honest. subst (λ (y : Step). IsPlainOf stage (event_of s stage y) d.pair) h.0 (p.0 honest);
    history = subst (λ (o : Option Stage). IsSomeAnd o (λ (a : Stage). IsHistory w s Queries a xs ds)) (goes d.pair) h.2;
    plain = subst (λ (o : Option Stage). IfSome o (λ (a : Stage). ArePlain s Queries a ds)) (goes d.pair)
        (subst (λ (y : Step). IfSome (next_stage s Queries stage y d.pair) (λ (a : Stage). ArePlain s Queries a ds)) h.0 p.1);
  }

  behind : (xs ys : List Step) (stage end : Stage) (ds : List Done) → Goes s stage xs end → IsHistory w s Queries stage (xs ++ ys) ds → ArePlain s Queries stage ds
      → Behind w s end ys ds (length xs)
  behind [] ys stage end ds go h p = record {
    rest = ds;
    pairs = λ k. let e : 0 + k ≡ k = omega arith in ap (pair_at ds) e;
    messages = λ k. let e : 0 + k ≡ k = omega arith in ap (messages_at ds) e;
    history = subst (λ (a : Stage). IsHistory w s Queries a ys ds) go h;
    plain = subst (λ (a : Stage). ArePlain s Queries a ds) go p;
  }
  behind (x ∷ xs) ys stage end ds go h p =
      let a = ahead stage (λ pair. go.0) x (xs ++ ys) ds go.2 h p in
      let b = behind xs ys go.0 end a.rest go.3 a.history a.plain in
      record {
        rest = b.rest;
        pairs = λ k. let e : suc (length xs) + k ≡ suc (length xs + k) = omega arith in
            ap (pair_at ds) e ∙ ap (λ (l : List Done). pair_at l (suc (length xs + k))) a.are ∙ b.pairs k;
        messages = λ k. let e : suc (length xs) + k ≡ suc (length xs + k) = omega arith in
            ap (messages_at ds) e ∙ ap (λ (l : List Done). messages_at l (suc (length xs + k))) a.are ∙ b.messages k;
        history = b.history;
        plain = b.plain;
      }

  module _ (order : List (Row × Seed)) (j : List ℕ) (n : ℕ) (others : List Actor) (rounds : List ℕ) (whole : prefix j ≡ n) (lines : List Line) (altered : Bool) where
    first_fix : (fixes : Fixes) → IsIdle fixes → (pair : OpenedPair)
        → next_stage s Queries (with_fixes order j n others fixes rounds lines altered) (steps.Fix 0) pair ≡ Some (with_fixes order j n others (First n) rounds lines altered)
    first_fix Unfixed idle pair = rw (whole, le-ltb n n (omega arith), append-nil lines, or_none altered) refl
    first_fix (First p) idle pair = absurd idle
    first_fix (Second p q) idle pair = absurd idle
    first_fix (Agreed m) idle pair = rw (whole, le-ltb n n (omega arith), append-nil lines, or_none altered) refl

    second_fix : (pair : OpenedPair)
        → next_stage s Queries (with_fixes order j n others (First n) rounds lines altered) (steps.Fix 0) pair ≡ Some (with_fixes order j n others (Second n n) rounds lines altered)
    second_fix pair = rw (whole, le-ltb n n (omega arith), append-nil lines, or_none altered) refl

    third_fix : (pair : OpenedPair)
        → next_stage s Queries (with_fixes order j n others (Second n n) rounds lines altered) (steps.Fix 0) pair ≡ Some (with_fixes order j n others (Agreed n) rounds lines altered)
    third_fix pair =
        let least : min (min n n) n ≡ n = omega arith in
        rw (whole, le-ltb n n (omega arith), least, append-nil lines, or_none altered) refl

  -- what an answer over all rows opens plainly
  answered : (order : List (Row × Seed)) (j : List ℕ) (n : ℕ) (others : List Actor) (rounds : List ℕ) (lines : List Line) (altered : Bool) (q : ℕ) (query : Query) (pair : OpenedPair)
      → slice_get s.queries q ≡ Some query
      → (let stage = with_fixes order j n others (Agreed n) (q ∷ rounds) lines altered in IsPlainOf stage (event_of s stage (steps.Answer 0 q)) pair)
      → pair ≡ plain_pair order n query (derive_of s.master 2 0 q)
  answered order j n others rounds lines altered q query pair query_is plain = rw query_is at plain

  -- the first query, or one of the others
  one_of : (order : List (Row × Seed)) (j : List ℕ) (n : ℕ) (others : List Actor) (rounds : List ℕ) (rest : List Query) (q : ℕ) (asked query : Query)
      (ds : List Done) (a b c d : Done) (es : List Done) → ds ≡ a ∷ b ∷ c ∷ d ∷ es → (k : ℕ) → slice_get (asked ∷ rest) k ≡ Some query → IsHonest (messages_at ds (4 * k + 3))
      → (IsHonest d.messages → d.pair ≡ plain_pair order n asked (derive_of s.master 2 0 q))
      → ((i : ℕ) → slice_get rest i ≡ Some query → IsHonest (messages_at es (4 * i + 3)) → pair_at es (4 * i + 3) ≡ plain_pair order n query (derive_of s.master 2 0 (q + 1 + i)))
      → pair_at ds (4 * k + 3) ≡ plain_pair order n query (derive_of s.master 2 0 (q + k))
  one_of order j n others rounds rest q asked query ds a b c d es are zero is honest first behind_it =
      let place : 4 * 0 + 3 ≡ suc (suc (suc zero)) = omega arith in
      let number : q ≡ q + 0 = omega arith in
      let same : asked ≡ query = same_Some _ _ is in
      let here : messages_at ds (4 * 0 + 3) ≡ d.messages = ap (messages_at ds) place ∙ ap (λ (l : List Done). messages_at l (suc (suc (suc zero)))) are in
      ap (pair_at ds) place ∙ ap (λ (l : List Done). pair_at l (suc (suc (suc zero)))) are ∙ first (subst IsHonest here honest)
      ∙ ap (λ (x : Query). plain_pair order n x (derive_of s.master 2 0 q)) same ∙ ap (λ (m : ℕ). plain_pair order n query (derive_of s.master 2 0 m)) number
  one_of order j n others rounds rest q asked query ds a b c d es are (suc k) is honest first behind_it =
      let place : 4 * suc k + 3 ≡ suc (suc (suc (suc (4 * k + 3)))) = omega arith in
      let number : q + 1 + k ≡ q + suc k = omega arith in
      let there : messages_at ds (4 * suc k + 3) ≡ messages_at es (4 * k + 3) =
      ap (messages_at ds) place ∙ ap (λ (l : List Done). messages_at l (suc (suc (suc (suc (4 * k + 3)))))) are in
      ap (pair_at ds) place ∙ ap (λ (l : List Done). pair_at l (suc (suc (suc (suc (4 * k + 3)))))) are ∙ behind_it k is (subst IsHonest there honest)
      ∙ ap (λ (m : ℕ). plain_pair order n query (derive_of s.master 2 0 m)) number

  -- query by query
  pub queries_plain : (order : List (Row × Seed)) (j : List ℕ) (n : ℕ) (others : List Actor) (rounds : List ℕ) → prefix j ≡ n
      → (rest : List Query) (q : ℕ) (fixes : Fixes) (lines : List Line) (altered : Bool) (ds : List Done) → IsIdle fixes → ((k : ℕ) → slice_get s.queries (q + k) ≡ slice_get rest k)
      → IsHistory w s Queries (with_fixes order j n others fixes (q ∷ rounds) lines altered) (flat_map ask_steps (range_with_len q (length rest))) ds
      → ArePlain s Queries (with_fixes order j n others fixes (q ∷ rounds) lines altered) ds
      → (k : ℕ) (query : Query) → slice_get rest k ≡ Some query → IsHonest (messages_at ds (4 * k + 3)) → pair_at ds (4 * k + 3) ≡ plain_pair order n query (derive_of s.master 2 0 (q + k))
  queries_plain order j n others rounds whole [] q fixes lines altered ds idle rest_is h p k query is honest = cc
  queries_plain order j n others rounds whole (asked ∷ rest) q fixes lines altered ds idle rest_is h p k query is honest =
      let xs = flat_map ask_steps (range_with_len (q + 1) (length rest)) in
      let here : q ≡ q + 0 = omega arith in
      let asked_is : slice_get s.queries q ≡ Some asked = ap (slice_get s.queries) here ∙ rest_is 0 in
      let others_at : (i : ℕ) → slice_get s.queries (q + 1 + i) ≡ slice_get rest i =
      λ i. let on : q + 1 + i ≡ q + suc i = omega arith in ap (slice_get s.queries) on ∙ rest_is (suc i) in
      let at : Fixes → Stage = λ f. with_fixes order j n others f (q ∷ rounds) lines altered in
      let done : OpenedPair → Stage =
      λ pair. with_fixes order j n others (Agreed n) ((q + 1) ∷ rounds) (lines ++ checked_line n q asked (check_of s q asked pair) ∷ []) (altered || is_refused (check_of s q asked pair)) in
      let a = ahead (at fixes) (λ pair. at (First n)) (steps.Fix 0) (steps.Fix 0 ∷ steps.Fix 0 ∷ steps.Answer 0 q ∷ xs) ds
      (first_fix order j n others (q ∷ rounds) whole lines altered fixes idle) h p in
      let b = ahead (at (First n)) (λ pair. at (Second n n)) (steps.Fix 0) (steps.Fix 0 ∷ steps.Answer 0 q ∷ xs) a.rest
      (second_fix order j n others (q ∷ rounds) whole lines altered) a.history a.plain in
      let c = ahead (at (Second n n)) (λ pair. at (Agreed n)) (steps.Fix 0) (steps.Answer 0 q ∷ xs) b.rest
      (third_fix order j n others (q ∷ rounds) whole lines altered) b.history b.plain in
      let d = ahead (at (Agreed n)) done (steps.Answer 0 q) xs c.rest (λ pair. answers s order j n others rounds lines altered q asked pair asked_is) c.history c.plain in
      let are : ds ≡ a.first ∷ b.first ∷ c.first ∷ d.first ∷ d.rest =
      a.are ∙ ap (λ (l : List Done). a.first ∷ l) (b.are ∙ ap (λ (l : List Done). b.first ∷ l) (c.are ∙ ap (λ (l : List Done). c.first ∷ l) d.are)) in
      one_of order j n others rounds rest q asked query ds a.first b.first c.first d.first d.rest are k is honest
      (λ honest_here. answered order j n others rounds lines altered q asked d.first.pair asked_is (d.here honest_here))
      (λ i is_behind honest_behind. queries_plain order j n others rounds whole rest (q + 1) (Agreed n) _ _ d.rest tt others_at d.history d.plain i query is_behind honest_behind)

-- the lines of queries, by place
line_at : (s : Setting) (pairs : ℕ → OpenedPair) (i : ℕ) (qs : List Query) (k : ℕ) (query : Query) → slice_get qs k ≡ Some query
    → slice_get (asked_lines s pairs i qs) k ≡ Some (checked_line (length s.rows) (i + k) query (check_of s (i + k) query (pairs (i + k))))
line_at s pairs i [] k query is = cc
line_at s pairs i (q ∷ qs) zero query is =
    let same : q ≡ query = same_Some _ _ is in
    let number : i ≡ i + 0 = omega arith in
    ap (λ (x : Query). Some (checked_line (length s.rows) i x (check_of s i x (pairs i)))) same
    ∙ ap (λ (m : ℕ). Some (checked_line (length s.rows) m query (check_of s m query (pairs m)))) number
line_at s pairs i (q ∷ qs) (suc k) query is =
    let number : i + 1 + k ≡ i + suc k = omega arith in
    line_at s pairs (i + 1) qs k query is ∙ ap (λ (m : ℕ). Some (checked_line (length s.rows) m query (check_of s m query (pairs m)))) number

has_line : (report : List Line) (i : ℕ) (line : Line) (end : Result Stage ℕ) → slice_get report i ≡ Some line → EndsInLines report end → HasLine i line end
has_line report i line (Ok stage) is ends = ap (λ (l : List Line). slice_get l i) ends ∙ is
has_line report i line (Err t) is ends = absurd ends

-- the pair of a query whose messages were received as they were sent
honest_pair : (w : Widths) (s : Setting) (history : List Done) → HasHistory w (asking s) history → ArePlain s Queries first_stage history
    → (i : ℕ) (query : Query) → slice_get s.queries i ≡ Some query → IsHonest (messages_of_query s history i)
    → pair_of_query s history i ≡ plain_pair (all_entries s) (length s.rows) query (derive_of s.master 2 0 i)
honest_pair w s history has plain i query is honest =
    let n = length s.rows in
    let append = flat_map (λ (row : ℕ). append_steps) (range_with_len 0 n) in
    let ask = flat_map ask_steps (range_with_len 0 (length s.queries)) in
    let b = behind w s append ask first_stage (with_rows (all_entries s) n other_actors (0 ∷ other_rounds)) history (all_go s) has plain in
    let place : 4 * n + 4 * i + 3 ≡ length append + (4 * i + 3) = omega (arith, length-parts (λ (row : ℕ). append_steps) 4 0 n (λ k. refl)) in
    let from_none : (k : ℕ) → 0 + k ≡ k = λ k. omega arith in
    ap (pair_at history) place ∙ b.pairs (4 * i + 3)
    ∙ queries_plain w s (all_entries s) (all_numbers s) n other_actors other_rounds (prefix-numbers_below n) s.queries 0 Unfixed [] false b.rest tt
    (λ k. ap (slice_get s.queries) (from_none k)) b.history b.plain i query is (subst IsHonest (ap (messages_at history) place ∙ b.messages (4 * i + 3)) honest)
    ∙ ap (λ (m : ℕ). plain_pair (all_entries s) n query (derive_of s.master 2 0 m)) (from_none i)

pub asked_honestly : PlainIsSmall → AskedInOrder → AskedHonestly
asked_honestly known order w s history legal has plain i query is honest =
    let from_none : 0 + i ≡ i = omega arith in
    let pairs = pair_of_query s history in
    let said : check_of s i query (pairs i) ≡ Ok (plain_answer query s.rows) =
    ap (check_of s i query) (honest_pair w s history has plain i query is honest) ∙ plain_verdict known w s legal i query in
    has_line (asked_lines s pairs 0 s.queries) i _ _
    (line_at s pairs 0 s.queries i query is
    ∙ ap (λ (m : ℕ). Some (checked_line (length s.rows) m query (check_of s m query (pairs m)))) from_none
    ∙ ap (λ (c : Result ℤ Altered). Some (checked_line (length s.rows) i query c)) said)
    (order w s history legal)
