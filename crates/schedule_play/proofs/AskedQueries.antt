-- Queries that actor 0 asks one after another over all rows.
use Rattle.std.proofs.Common.{◌≡◌, ◌∙◌, refl, sym, ap, subst, ℕ, ℤ, suc, ◌+◌, ◌*◌, Bool, true, false, ◌||◌, Some, None, Result, Ok, Err, List, [], ◌∷◌, ◌++◌, length, slice_get, min, arith, append_assoc, append-nil}
use Rattle.std.specs.Prelude.{⊤}
use Rattle.std.proofs.lemmas.Bool.{le-ltb}
use Rattle.std.specs.List.{flat_map, range_with_len}
use Rattle.prg_chacha.specs.Prg.{derive_of}
use Rattle.prg_chacha.specs.declared.seed.Seed.{Seed}
use Rattle.query_plan.specs.Seeds.{weights_of}
use Rattle.query_plan.specs.Views.{key_from}
use Rattle.query_plan.specs.declared.query.Query.{Query}
use Rattle.report_lines.specs.declared.lines.Line.{Line}
use Rattle.server_rounds.specs.declared.opened.OpenedPair.{OpenedPair}
use Rattle.table_schema.specs.declared.rows.Row.{Row}
use Rattle.weighted_check.specs.Check.{checked}
use Rattle.weighted_check.specs.declared.Altered.{Altered}
use Rattle.waldo_core.specs.Core.{Actor, Fixes, prefix}
use Rattle.waldo_core.specs.Core.Fixes.{Unfixed, First, Second, Agreed}
use Rattle.waldo_core.specs.Step.{reply_of}
use Rattle.waldo_words.specs.declared.schedule.Step.{Step}
use Rattle.waldo_words.specs.declared.schedule.Step.TheVariants as steps
use Rattle.schedule_play.specs.History.{opened_in}
use Rattle.schedule_play.specs.Laws.{AskedInOrder, EndsInLines, asked_lines, checked_line, pair_of_query}
use Rattle.schedule_play.specs.Stages.{Opening, Stage, first_stage, go_on, next_stage, played, played_on, with_reply}
use Rattle.schedule_play.specs.Tasks.{Setting, append_steps, ask_steps, asking}
use Rattle.schedule_play.specs.declared.style.Style.TheVariants.{Queries}
use Rattle.schedule_play.proofs.AppendedRows.{all_entries, all_go, all_numbers, core_with, goes_played, other_actors, other_rounds, with_rows}
use Rattle.schedule_play.proofs.Loops.{length-parts}
use Rattle.schedule_play.proofs.RowNumbers.{prefix-numbers_below}

-- whether the check refused a pair
abbrev pub is_refused : Result ℤ Altered → Bool
is_refused (Ok total) = false
is_refused (Err pair) = true

-- what the check says of query i, which opened this pair
abbrev pub check_of : Setting → ℕ → Query → OpenedPair → Result ℤ Altered
check_of s i query pair = checked pair.total pair.weighted (key_from (weights_of (derive_of s.master 2 0 i) 1) query.count)

-- whether it refused the pair of a query
abbrev pub some_refused : Setting → (ℕ → OpenedPair) → ℕ → List Query → Bool
some_refused s pairs i [] = false
some_refused s pairs i (q ∷ qs) = is_refused (check_of s i q (pairs i)) || some_refused s pairs (i + 1) qs

-- a play that ends with these lines, and with or without a refused pair
abbrev pub EndsIn : List Line → Bool → Result Stage ℕ → Type 0
EndsIn report altered (Ok stage) = (stage.lines ≡ report) × (stage.altered ≡ altered)
EndsIn report altered (Err t) = ⊥

-- no fix is under way
abbrev pub IsIdle : Fixes → Type 0
IsIdle Unfixed = ⊤
IsIdle (First p) = ⊥
IsIdle (Second p q) = ⊥
IsIdle (Agreed n) = ⊤

pub or_none : (b : Bool) → (b || false) ≡ b
or_none true = refl
or_none false = refl

or_assoc : (a b c : Bool) → ((a || b) || c) ≡ (a || (b || c))
or_assoc true b c = refl
or_assoc false b c = refl

-- the stage of an actor that saw all n rows
abbrev pub with_fixes : List (Row × Seed) → List ℕ → ℕ → List Actor → Fixes → List ℕ → List Line → Bool → Stage
with_fixes order j n others fixes rounds lines altered =
    record { core = core_with order j j j (record { floor = n; draw = None; fixes = fixes }) others; rounds = rounds; lines = lines; altered = altered }

one_step : (s : Setting) (opens : Opening) (t : ℕ) (stage next : Stage) (x : Step) (xs : List Step) → next_stage s Queries stage x (opens t stage x) ≡ Some next
    → played_on s Queries opens t stage (x ∷ xs) ≡ played_on s Queries opens (t + 1) next xs
one_step s opens t stage next x xs e = ap (go_on (λ (after : Stage). played_on s Queries opens (t + 1) after xs) t) e

-- ---- the four steps of a query

module _ (s : Setting) (opens : Opening) (order : List (Row × Seed)) (j : List ℕ) (n : ℕ) (others : List Actor) (rounds : List ℕ)
    (lines : List Line) (altered : Bool) (t : ℕ) (xs : List Step) (whole : prefix j ≡ n) where
  first_from : (fixes : Fixes) → IsIdle fixes
      → played_on s Queries opens t (with_fixes order j n others fixes rounds lines altered) (steps.Fix 0 ∷ xs)
      ≡ played_on s Queries opens (t + 1) (with_fixes order j n others (First n) rounds lines altered) xs
  first_from Unfixed idle = rw (whole, le-ltb n n (omega arith), append-nil lines, or_none altered) refl
  first_from (First p) idle = absurd idle
  first_from (Second p q) idle = absurd idle
  first_from (Agreed m) idle = rw (whole, le-ltb n n (omega arith), append-nil lines, or_none altered) refl

  second : played_on s Queries opens t (with_fixes order j n others (First n) rounds lines altered) (steps.Fix 0 ∷ xs)
      ≡ played_on s Queries opens (t + 1) (with_fixes order j n others (Second n n) rounds lines altered) xs
  second = rw (whole, le-ltb n n (omega arith), append-nil lines, or_none altered) refl

  third : played_on s Queries opens t (with_fixes order j n others (Second n n) rounds lines altered) (steps.Fix 0 ∷ xs)
      ≡ played_on s Queries opens (t + 1) (with_fixes order j n others (Agreed n) rounds lines altered) xs
  third =
      let least : min (min n n) n ≡ n = omega arith in
      rw (whole, le-ltb n n (omega arith), least, append-nil lines, or_none altered) refl

module _ (s : Setting) (order : List (Row × Seed)) (j : List ℕ) (n : ℕ) (others : List Actor) (rounds : List ℕ) where
  answer_line : (lines : List Line) (altered : Bool) (q : ℕ) (query : Query) (verdict : Result ℤ Altered) → slice_get s.queries q ≡ Some query
      → let stage = with_fixes order j n others (Agreed n) (q ∷ rounds) lines altered in
      with_reply s Queries stage (steps.Answer 0 q) (stage.core, reply_of n verdict)
      ≡ with_fixes order j n others (Agreed n) ((q + 1) ∷ rounds) (lines ++ checked_line n q query verdict ∷ []) (altered || is_refused verdict)
  answer_line lines altered q query (Ok total) query_is = rw query_is refl
  answer_line lines altered q query (Err pair) query_is = refl

  pub answers : (lines : List Line) (altered : Bool) (q : ℕ) (query : Query) (pair : OpenedPair) → slice_get s.queries q ≡ Some query
      → next_stage s Queries (with_fixes order j n others (Agreed n) (q ∷ rounds) lines altered) (steps.Answer 0 q) pair
      ≡ Some (with_fixes order j n others (Agreed n) ((q + 1) ∷ rounds) (lines ++ checked_line n q query (check_of s q query pair) ∷ [])
      (altered || is_refused (check_of s q query pair)))
  answers lines altered q query pair query_is =
      let stage = with_fixes order j n others (Agreed n) (q ∷ rounds) lines altered in
      let replied : next_stage s Queries stage (steps.Answer 0 q) pair
      ≡ Some (with_reply s Queries stage (steps.Answer 0 q) (stage.core, reply_of n (check_of s q query pair))) = rw query_is refl in
      replied ∙ ap Some (answer_line lines altered q query (check_of s q query pair) query_is)

-- ---- query by query

-- this is what each query opens
abbrev pub AreOpened : Setting → Opening → (ℕ → OpenedPair) → List (Row × Seed) → List ℕ → List Actor → List ℕ → Type 0
AreOpened s opens pairs order j others rounds =
    let n = length s.rows in
    (q : ℕ) (lines : List Line) (altered : Bool) → opens (4 * n + 4 * q + 3) (with_fixes order j n others (Agreed n) (q ∷ rounds) lines altered) (steps.Answer 0 q) ≡ pairs q

ends_same : (report report' : List Line) (altered altered' : Bool) (end end' : Result Stage ℕ) → report ≡ report' → altered ≡ altered' → end ≡ end'
    → EndsIn report altered end → EndsIn report' altered' end'
ends_same report report' altered altered' end end' same_report same_altered same_end ends = rw (← same_report, ← same_altered, ← same_end) ends

module _ (s : Setting) (opens : Opening) (pairs : ℕ → OpenedPair) (order : List (Row × Seed)) (j : List ℕ) (others : List Actor) (rounds : List ℕ)
    (whole : prefix j ≡ length s.rows) (opened : AreOpened s opens pairs order j others rounds) where
  answer : (t q : ℕ) (query : Query) (lines : List Line) (altered : Bool) (xs : List Step) → t ≡ 4 * length s.rows + 4 * q + 3 → slice_get s.queries q ≡ Some query
      → let n = length s.rows in
      let verdict = check_of s q query (pairs q) in
      played_on s Queries opens t (with_fixes order j n others (Agreed n) (q ∷ rounds) lines altered) (steps.Answer 0 q ∷ xs)
      ≡ played_on s Queries opens (t + 1) (with_fixes order j n others (Agreed n) ((q + 1) ∷ rounds) (lines ++ checked_line n q query verdict ∷ []) (altered || is_refused verdict)) xs
  answer t q query lines altered xs same query_is =
      let n = length s.rows in
      let stage = with_fixes order j n others (Agreed n) (q ∷ rounds) lines altered in
      let verdict = check_of s q query (pairs q) in
      let after = with_fixes order j n others (Agreed n) ((q + 1) ∷ rounds) (lines ++ checked_line n q query verdict ∷ []) (altered || is_refused verdict) in
      let pair : opens t stage (steps.Answer 0 q) ≡ pairs q = ap (λ (u : ℕ). opens u stage (steps.Answer 0 q)) same ∙ opened q lines altered in
      one_step s opens t stage after (steps.Answer 0 q) xs
      (ap (next_stage s Queries stage (steps.Answer 0 q)) pair ∙ answers s order j n others rounds lines altered q query (pairs q) query_is)

  -- all queries from one on
  all_queries : (rest : List Query) (t q : ℕ) (fixes : Fixes) (lines : List Line) (altered : Bool) → IsIdle fixes → t ≡ 4 * length s.rows + 4 * q
      → ((k : ℕ) → slice_get s.queries (q + k) ≡ slice_get rest k)
      → EndsIn (lines ++ asked_lines s pairs q rest) (altered || some_refused s pairs q rest)
      (played_on s Queries opens t (with_fixes order j (length s.rows) others fixes (q ∷ rounds) lines altered) (flat_map ask_steps (range_with_len q (length rest))))
  all_queries [] t q fixes lines altered idle same rest_is = (sym (append-nil lines), sym (or_none altered))
  all_queries (query ∷ rest) t q fixes lines altered idle same rest_is =
      let n = length s.rows in
      let xs = flat_map ask_steps (range_with_len (q + 1) (length rest)) in
      let line = checked_line n q query (check_of s q query (pairs q)) in
      let refused = is_refused (check_of s q query (pairs q)) in
      let here : q ≡ q + 0 = omega arith in
      let last : t + 1 + 1 + 1 ≡ 4 * n + 4 * q + 3 = omega arith in
      let next : t + 1 + 1 + 1 + 1 ≡ 4 * n + 4 * (q + 1) = omega arith in
      let others_at : (k : ℕ) → slice_get s.queries (q + 1 + k) ≡ slice_get rest k =
      λ k. let on : q + 1 + k ≡ q + suc k = omega arith in ap (slice_get s.queries) on ∙ rest_is (suc k) in
      let done =
      first_from s opens order j n others (q ∷ rounds) lines altered t (steps.Fix 0 ∷ steps.Fix 0 ∷ steps.Answer 0 q ∷ xs) whole fixes idle
      ∙ second s opens order j n others (q ∷ rounds) lines altered (t + 1) (steps.Fix 0 ∷ steps.Answer 0 q ∷ xs) whole
      ∙ third s opens order j n others (q ∷ rounds) lines altered (t + 1 + 1) (steps.Answer 0 q ∷ xs) whole
      ∙ answer (t + 1 + 1 + 1) q query lines altered xs last (ap (slice_get s.queries) here ∙ rest_is 0) in
      ends_same ((lines ++ line ∷ []) ++ asked_lines s pairs (q + 1) rest) (lines ++ line ∷ asked_lines s pairs (q + 1) rest)
      ((altered || refused) || some_refused s pairs (q + 1) rest) (altered || (refused || some_refused s pairs (q + 1) rest))
      (played_on s Queries opens (t + 1 + 1 + 1 + 1) (with_fixes order j n others (Agreed n) ((q + 1) ∷ rounds) (lines ++ line ∷ []) (altered || refused)) xs)
      (played_on s Queries opens t (with_fixes order j n others fixes (q ∷ rounds) lines altered) (ask_steps q ++ xs))
      (append_assoc lines (line ∷ []) (asked_lines s pairs (q + 1) rest)) (or_assoc altered refused (some_refused s pairs (q + 1) rest)) (sym done)
      (all_queries rest (t + 1 + 1 + 1 + 1) (q + 1) (Agreed n) (lines ++ line ∷ []) (altered || refused) tt next others_at)

-- ---- all steps

-- what the steps come to, whatever the queries open
pub in_order : (s : Setting) (opens : Opening) (pairs : ℕ → OpenedPair) → AreOpened s opens pairs (all_entries s) (all_numbers s) other_actors other_rounds
    → EndsIn (asked_lines s pairs 0 s.queries) (some_refused s pairs 0 s.queries) (played opens (asking s))
in_order s opens pairs opened =
    let n = length s.rows in
    let ask = flat_map ask_steps (range_with_len 0 (length s.queries)) in
    let from_none : (k : ℕ) → 0 + k ≡ k = λ k. omega arith in
    let same : 4 * n ≡ 4 * n + 4 * 0 = omega arith in
    let append = flat_map (λ (row : ℕ). append_steps) (range_with_len 0 n) in
    let count : 0 + length append ≡ 4 * n = omega (arith, length-parts (λ (row : ℕ). append_steps) 4 0 n (λ i. refl)) in
    let stage = with_rows (all_entries s) n other_actors (0 ∷ other_rounds) in
    let appended : played opens (asking s) ≡ played_on s Queries opens (4 * n) stage ask =
    goes_played s opens append ask 0 first_stage stage (all_go s) ∙ ap (λ (t : ℕ). played_on s Queries opens t stage ask) count in
    subst (λ (end : Result Stage ℕ). EndsIn (asked_lines s pairs 0 s.queries) (some_refused s pairs 0 s.queries) end) (sym appended)
    (all_queries s opens pairs (all_entries s) (all_numbers s) other_actors other_rounds (prefix-numbers_below n) opened s.queries (4 * n) 0 Unfixed [] false tt same
    (λ k. ap (slice_get s.queries) (from_none k)))

ends_in_lines : (report : List Line) (altered : Bool) (end : Result Stage ℕ) → EndsIn report altered end → EndsInLines report end
ends_in_lines report altered (Ok stage) ends = ends.0
ends_in_lines report altered (Err t) ends = absurd ends

pub asked_in_order : AskedInOrder
asked_in_order w s history legal =
    let pairs = pair_of_query s history in
    ends_in_lines (asked_lines s pairs 0 s.queries) (some_refused s pairs 0 s.queries) (played (opened_in history) (asking s))
    (in_order s (opened_in history) pairs (λ q lines altered. refl))
