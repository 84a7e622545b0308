-- The sizes of a single step's answer, and of queries that actor 0 asks over all rows.
use Rattle.std.proofs.Common.{◌≡◌, ◌∙◌, refl, sym, ap, subst, ℕ, suc, ◌+◌, Bool, false, ◌||◌, List, [], ◌∷◌, ◌++◌, append-nil, length, slice_get, Option, Some, None, option_map, min, arith}
use Rattle.std.proofs.lemmas.Bool.{le-ltb}
use Rattle.std.specs.List.{flat_map, range_with_len}
use Rattle.prg_chacha.specs.declared.seed.Seed.{Seed}
use Rattle.query_plan.specs.declared.query.Query.{Query}
use Rattle.report_lines.specs.declared.lines.Line.{Line}
use Rattle.table_schema.specs.declared.rows.Row.{Row}
use Rattle.table_schema.specs.declared.widths.Widths.{Widths}
use Rattle.visit_trace.specs.Growing.{grew_nothing}
use Rattle.visit_trace.specs.Seen.{AllSeen, Grew, GrewPrefix}
use Rattle.visit_trace.specs.declared.sizes.Sizes.{Sizes}
use Rattle.waldo_core.specs.Answers.{agreed_in, rows_agreed}
use Rattle.waldo_core.specs.Core.{Actor, Core, Fixes, prefix}
use Rattle.waldo_core.specs.Core.Fixes.{Unfixed, First, Second, Agreed}
use Rattle.waldo_core.specs.Step.{acts, answer_step, step}
use Rattle.waldo_core.specs.Traces.{seen_of, seen_over}
use Rattle.waldo_core.specs.declared.events.Event.{Event}
use Rattle.waldo_core.specs.declared.events.Event.TheVariants as events
use Rattle.waldo_words.specs.declared.schedule.Step.{Step}
use Rattle.waldo_words.specs.declared.schedule.Step.TheVariants as steps
use Rattle.schedule_play.specs.Appended.{stage_with_rows}
use Rattle.schedule_play.specs.History.{HasNoCase, nothing_opened}
use Rattle.schedule_play.specs.Laws.{checked_line}
use Rattle.schedule_play.specs.Stages.{Stage, event_of, next_stage, step_of, with_reply}
use Rattle.schedule_play.specs.Tasks.{Setting, ask_steps, room_of}
use Rattle.schedule_play.specs.Traces.{agreed_sizes, asked_sizes, event_sizes, sizes_behind, sizes_from, sizes_over, traces_of}
use Rattle.schedule_play.specs.declared.style.Style.{Style}
use Rattle.schedule_play.specs.declared.style.Style.TheVariants.{Queries}
use Rattle.schedule_play.proofs.AppendedRows.{all_entries, all_numbers, other_actors, other_rounds}
use Rattle.schedule_play.proofs.AskedQueries.{IsIdle, answers, check_of, is_refused, or_none, with_fixes}
use Rattle.schedule_play.proofs.RowNumbers.{prefix-numbers_below}
use Rattle.schedule_play.proofs.Tracing.{traces_single}
use Rattle.schedule_play.proofs.Unasked.{with_rows_is}

-- ---- a single step

from_none : {A B : Type 0} (f : A → B) (o : Option A) → option_map f o ≡ None → o ≡ None
from_none f None e = refl
from_none f (Some x) e = cc

fixes_sizes : (w : Widths) (core : Core) (fixes : Fixes) (query : Query) (seed : Seed) → answer_step core fixes query seed nothing_opened ≡ None
    → agreed_sizes w (agreed_in fixes) query ≡ []
fixes_sizes w core Unfixed query seed e = refl
fixes_sizes w core (First p) query seed e = refl
fixes_sizes w core (Second p q) query seed e = refl
fixes_sizes w core (Agreed n) query seed e = cc

actor_sizes : (w : Widths) (capacity : ℕ) (core : Core) (number : ℕ) (query : Query) (seed : Seed) (o : Option Actor)
    → acts capacity core (events.Answer number query seed) nothing_opened o ≡ None → agreed_sizes w (rows_agreed o) query ≡ []
actor_sizes w capacity core number query seed None e = refl
actor_sizes w capacity core number query seed (Some actor) e = fixes_sizes w core actor.fixes query seed e

none_sizes : (w : Widths) (capacity : ℕ) (core : Core) (event : Event) → step capacity core event nothing_opened ≡ None → event_sizes w core (Some event) ≡ []
none_sizes w capacity core (events.Draw number row seed) e = refl
none_sizes w capacity core (events.Place number k) e = refl
none_sizes w capacity core (events.Look number k) e = refl
none_sizes w capacity core (events.Fix number) e = refl
none_sizes w capacity core (events.Answer number query seed) e = actor_sizes w capacity core number query seed (slice_get core.actors number) e

over_seen : (w : Widths) (o : Option ℕ) (query : Query) → traces_of (agreed_sizes w o query) ≡ seen_over w o query
over_seen w None query = refl
over_seen w (Some n) query = traces_single (sizes_over w n query)

event_seen : (w : Widths) (core : Core) (event : Event) → traces_of (event_sizes w core (Some event)) ≡ seen_of w core event
event_seen w core (events.Draw number row seed) = refl
event_seen w core (events.Place number k) = refl
event_seen w core (events.Look number k) = refl
event_seen w core (events.Fix number) = refl
event_seen w core (events.Answer number query seed) = over_seen w (rows_agreed (slice_get core.actors number)) query

nothing_behind : (o : Option Stage) → sizes_behind (λ (next : Stage). []) o ≡ []
nothing_behind None = refl
nothing_behind (Some next) = refl

module _ (w : Widths) (s : Setting) (stage : Stage) (x : Step) where
  one_step : sizes_from w s stage (x ∷ []) ≡ event_sizes w stage.core (event_of s stage x)
  one_step =
      ap (λ (l : List Sizes). event_sizes w stage.core (event_of s stage x) ++ l) (nothing_behind (next_stage s Queries stage x nothing_opened))
      ∙ append-nil (event_sizes w stage.core (event_of s stage x))

  refused_sizes : (style : Style) → HasNoCase s style stage x → sizes_from w s stage (x ∷ []) ≡ []
  refused_sizes style never = one_step ∙ by (event_of s stage x) (never nothing_opened)
    where
      by : (o : Option Event) → option_map (with_reply s style stage x) (step_of s stage o nothing_opened) ≡ None → event_sizes w stage.core o ≡ []
      by None e = refl
      by (Some event) e = none_sizes w (room_of s) stage.core event (from_none (with_reply s style stage x) (step (room_of s) stage.core event nothing_opened) e)

  -- a step without a case adds nothing
  pub step_adds_nothing : (style : Style) (t : AllSeen) → HasNoCase s style stage x → Grew t t (traces_of (sizes_from w s stage (x ∷ [])))
  step_adds_nothing style t never = subst (λ (zs : List Sizes). Grew t t (traces_of zs)) (sym (refused_sizes style never)) (grew_nothing t)

  seen_is : (event : Event) → event_of s stage x ≡ Some event → seen_of w stage.core event ≡ traces_of (sizes_from w s stage (x ∷ []))
  seen_is event e = sym (ap traces_of (one_step ∙ ap (event_sizes w stage.core) e) ∙ event_seen w stage.core event)

  -- one with an event adds what is seen of it
  pub step_adds : (event : Event) (a b : AllSeen) → event_of s stage x ≡ Some event → Grew a b (seen_of w stage.core event) → Grew a b (traces_of (sizes_from w s stage (x ∷ [])))
  step_adds event a b e g = subst (Grew a b) (seen_is event e) g

  pub step_begins : (event : Event) (a b : AllSeen) → event_of s stage x ≡ Some event → GrewPrefix a b (seen_of w stage.core event)
      → GrewPrefix a b (traces_of (sizes_from w s stage (x ∷ [])))
  step_begins event a b e g = subst (GrewPrefix a b) (seen_is event e) g

-- ---- queries that are asked

module _ (w : Widths) (s : Setting) where
  to_next : (stage next : Stage) (x : Step) (xs : List Step) → next_stage s Queries stage x nothing_opened ≡ Some next
      → sizes_from w s stage (x ∷ xs) ≡ event_sizes w stage.core (event_of s stage x) ++ sizes_from w s next xs
  to_next stage next x xs e =
      ap (λ (o : Option Stage). event_sizes w stage.core (event_of s stage x) ++ sizes_behind (λ (after : Stage). sizes_from w s after xs) o) e

  module _ (order : List (Row × Seed)) (j : List ℕ) (others : List Actor) (rounds : List ℕ) (whole : prefix j ≡ length s.rows) where
    abbrev at : Fixes → ℕ → List Line → Bool → Stage
    at fixes q lines altered = with_fixes order j (length s.rows) others fixes (q ∷ rounds) lines altered

    first_fix : (fixes : Fixes) (q : ℕ) (lines : List Line) (altered : Bool) → IsIdle fixes
        → next_stage s Queries (at fixes q lines altered) (steps.Fix 0) nothing_opened ≡ Some (at (First (length s.rows)) q lines altered)
    first_fix Unfixed q lines altered idle = rw (whole, le-ltb (length s.rows) (length s.rows) (omega arith), append-nil lines, or_none altered) refl
    first_fix (First p) q lines altered idle = absurd idle
    first_fix (Second p r) q lines altered idle = absurd idle
    first_fix (Agreed m) q lines altered idle = rw (whole, le-ltb (length s.rows) (length s.rows) (omega arith), append-nil lines, or_none altered) refl

    second_fix : (q : ℕ) (lines : List Line) (altered : Bool)
        → next_stage s Queries (at (First (length s.rows)) q lines altered) (steps.Fix 0) nothing_opened ≡ Some (at (Second (length s.rows) (length s.rows)) q lines altered)
    second_fix q lines altered = rw (whole, le-ltb (length s.rows) (length s.rows) (omega arith), append-nil lines, or_none altered) refl

    third_fix : (q : ℕ) (lines : List Line) (altered : Bool)
        → next_stage s Queries (at (Second (length s.rows) (length s.rows)) q lines altered) (steps.Fix 0) nothing_opened ≡ Some (at (Agreed (length s.rows)) q lines altered)
    third_fix q lines altered =
        let n = length s.rows in
        let least : min (min n n) n ≡ n = omega arith in
        rw (whole, le-ltb n n (omega arith), least, append-nil lines, or_none altered) refl

    answer_sizes : (q : ℕ) (query : Query) (lines : List Line) (altered : Bool) → slice_get s.queries q ≡ Some query
        → let stage = at (Agreed (length s.rows)) q lines altered in
        event_sizes w stage.core (event_of s stage (steps.Answer 0 q)) ≡ sizes_over w (length s.rows) query ∷ []
    answer_sizes q query lines altered query_is = rw query_is refl

    all_sizes : (rest : List Query) (q : ℕ) (fixes : Fixes) (lines : List Line) (altered : Bool) → IsIdle fixes
        → ((k : ℕ) → slice_get s.queries (q + k) ≡ slice_get rest k)
        → sizes_from w s (at fixes q lines altered) (flat_map ask_steps (range_with_len q (length rest))) ≡ asked_sizes w (length s.rows) rest
    all_sizes [] q fixes lines altered idle rest_is = refl
    all_sizes (query ∷ rest) q fixes lines altered idle rest_is =
        let n = length s.rows in
        let xs = flat_map ask_steps (range_with_len (q + 1) (length rest)) in
        let here : q ≡ q + 0 = omega arith in
        let query_is : slice_get s.queries q ≡ Some query = ap (slice_get s.queries) here ∙ rest_is 0 in
        let others_at : (k : ℕ) → slice_get s.queries (q + 1 + k) ≡ slice_get rest k =
        λ k. let on : q + 1 + k ≡ q + suc k = omega arith in ap (slice_get s.queries) on ∙ rest_is (suc k) in
        let verdict = check_of s q query nothing_opened in
        let all = lines ++ checked_line n q query verdict ∷ [] in
        let some = altered || is_refused verdict in
        let first = at (First n) q lines altered in
        let second = at (Second n n) q lines altered in
        let fixed = at (Agreed n) q lines altered in
        let after = at (Agreed n) (q + 1) all some in
        to_next (at fixes q lines altered) first (steps.Fix 0) (steps.Fix 0 ∷ steps.Fix 0 ∷ steps.Answer 0 q ∷ xs) (first_fix fixes q lines altered idle)
        ∙ to_next first second (steps.Fix 0) (steps.Fix 0 ∷ steps.Answer 0 q ∷ xs) (second_fix q lines altered)
        ∙ to_next second fixed (steps.Fix 0) (steps.Answer 0 q ∷ xs) (third_fix q lines altered)
        ∙ to_next fixed after (steps.Answer 0 q) xs (answers s order j n others rounds lines altered q query nothing_opened query_is)
        ∙ ap (λ (l : List Sizes). l ++ sizes_from w s after xs) (answer_sizes q query lines altered query_is)
        ∙ ap (λ (l : List Sizes). sizes_over w n query ∷ l) (all_sizes rest (q + 1) (Agreed n) all some tt others_at)

  -- over all rows
  pub asked_over : sizes_from w s (stage_with_rows s) (flat_map ask_steps (range_with_len 0 (length s.queries))) ≡ asked_sizes w (length s.rows) s.queries
  asked_over =
      let none : (k : ℕ) → 0 + k ≡ k = λ k. omega arith in
      subst (λ (stage : Stage). sizes_from w s stage (flat_map ask_steps (range_with_len 0 (length s.queries))) ≡ asked_sizes w (length s.rows) s.queries) (with_rows_is s)
      (all_sizes (all_entries s) (all_numbers s) other_actors other_rounds (prefix-numbers_below (length s.rows)) s.queries 0 Unfixed [] false tt
      (λ k. ap (slice_get s.queries) (none k)))
