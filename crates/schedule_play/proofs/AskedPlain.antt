-- The same queries where nothing is altered: each line is the plain answer.
use Rattle.std.proofs.Common.{◌≡◌, ◌∙◌, refl, ap, ℕ, ℤ, suc, ◌+◌, ◌<◌, ◌≤◌, ◌^◌, Bool, false, ◌||◌, Some, Result, Ok, Err, List, [], ◌∷◌, length, slice_get, map, max, take, arith, eq-eqb}
use Rattle.std.proofs.lemmas.Bool.{lt-ltb}
use Rattle.std.proofs.lemmas.List.{take_all}
use Rattle.ring128.specs.Signed.{word_of, signed_of, size_of}
use Rattle.ring128.proofs.Signed.{signed-word}
use Rattle.prg_chacha.specs.Prg.{derive_of}
use Rattle.prg_chacha.specs.declared.seed.Seed.{Seed}
use Rattle.query_plan.specs.Seeds.{weights_of}
use Rattle.query_plan.specs.Views.{key_from}
use Rattle.query_plan.specs.declared.query.Query.{Query}
use Rattle.report_lines.specs.declared.lines.Line.{Line}
use Rattle.report_lines.specs.declared.lines.Line.TheVariants as lines
use Rattle.report_lines.specs.declared.lines.Who.TheVariants.{Single}
use Rattle.ring128.specs.Ring.{times}
use Rattle.server_rounds.specs.declared.opened.OpenedPair.{OpenedPair}
use Rattle.table_schema.specs.declared.rows.Row.{Row}
use Rattle.table_schema.specs.declared.widths.Widths.{Widths}
use Rattle.transcript.specs.Laws.{PlainIsSmall}
use Rattle.transcript.specs.Plain.{plain}
use Rattle.weighted_check.specs.Check.{checked}
use Rattle.weighted_check.specs.declared.Altered.{Altered}
use Rattle.waldo_core.specs.Answers.{plain_pair}
use Rattle.waldo_core.specs.Core.Fixes.{Agreed}
use Rattle.waldo_words.specs.declared.schedule.Step.TheVariants as steps
use Rattle.schedule_play.specs.Laws.{AskedPlainly, EndsPlainly, asked_lines, checked_line}
use Rattle.schedule_play.specs.Plain.{plain_lines, plainly}
use Rattle.schedule_play.specs.Stages.{Stage, played}
use Rattle.schedule_play.specs.Tasks.{IsSetting, Setting, asking}
use Rattle.schedule_play.specs.Appended.{seeded_rows}
use Rattle.schedule_play.proofs.AppendedRows.{all_entries, all_numbers, length-seeded_rows, other_actors, other_rounds}
use Rattle.schedule_play.proofs.AskedQueries.{EndsIn, check_of, in_order, is_refused, some_refused, with_fixes}

-- a pair that keeps the relation is accepted
accepted : (answer : ℤ) (key : ℕ) → size_of answer < 2 ^ 63 → checked (word_of answer) (times key (word_of answer)) key ≡ Ok answer
accepted answer key small =
    let same : signed_of (word_of answer) ≡ answer = signed-word answer (omega arith) in
    let product = times key (word_of answer) in
    rw (eq-eqb product product refl, same, lt-ltb (size_of answer) (2 ^ 63) small) refl

rows_back : (master : Seed) (i : ℕ) (rows : List Row) → map (λ (entry : Row × Seed). entry.0) (seeded_rows master i rows) ≡ rows
rows_back master i [] = refl
rows_back master i (row ∷ rows) = ap (λ (l : List Row). row ∷ l) (rows_back master (i + 1) rows)

-- the first rows of the order, as many as there are, are the rows
all_back : (s : Setting) → map (λ (entry : Row × Seed). entry.0) (take (length s.rows) (all_entries s)) ≡ s.rows
all_back s =
    let long = length-seeded_rows s.master 0 s.rows in
    ap (map (λ (entry : Row × Seed). entry.0)) (take_all (length s.rows) (all_entries s) (omega arith)) ∙ rows_back s.master 0 s.rows

-- what query q opens plainly
abbrev pairs_of : Setting → ℕ → OpenedPair
pairs_of s q = plainly s 0 (with_fixes (all_entries s) (all_numbers s) (length s.rows) other_actors (Agreed (length s.rows)) (q ∷ other_rounds) [] false) (steps.Answer 0 q)

opened_plainly : (s : Setting) (q : ℕ) (query : Query) → slice_get s.queries q ≡ Some query
    → pairs_of s q ≡ plain_pair (all_entries s) (length s.rows) query (derive_of s.master 2 0 q)
opened_plainly s q query query_is = rw query_is refl

module _ (known : PlainIsSmall) (w : Widths) (s : Setting) (legal : IsSetting w s) where
  answer_small : (query : Query) → size_of (plain query s.rows) < 2 ^ 63
  answer_small query =
      let most : max 1 (length s.rows) ≤ 65536 = legal.fits.1 in
      let small = known w query s.rows legal.held (omega arith) in omega (arith, small)

  -- what the check says of the plain pair
  pub plain_verdict : (q : ℕ) (query : Query) → check_of s q query (plain_pair (all_entries s) (length s.rows) query (derive_of s.master 2 0 q)) ≡ Ok (plain query s.rows)
  plain_verdict q query =
      let key = key_from (weights_of (derive_of s.master 2 0 q) 1) query.count in
      ap (λ (rows : List Row). checked (word_of (plain query rows)) (times key (word_of (plain query rows))) key) (all_back s)
      ∙ accepted (plain query s.rows) key (answer_small query)

  verdict : (q : ℕ) (query : Query) → slice_get s.queries q ≡ Some query → check_of s q query (pairs_of s q) ≡ Ok (plain query s.rows)
  verdict q query query_is = ap (check_of s q query) (opened_plainly s q query query_is) ∙ plain_verdict q query

  all_plain : (rest : List Query) (q : ℕ) → ((k : ℕ) → slice_get s.queries (q + k) ≡ slice_get rest k)
      → (asked_lines s (pairs_of s) q rest ≡ plain_lines s.rows q rest) × (some_refused s (pairs_of s) q rest ≡ false)
  all_plain [] q rest_is = (refl, refl)
  all_plain (query ∷ rest) q rest_is =
      let here : q ≡ q + 0 = omega arith in
      let others_at : (k : ℕ) → slice_get s.queries (q + 1 + k) ≡ slice_get rest k =
      λ k. let on : q + 1 + k ≡ q + suc k = omega arith in ap (slice_get s.queries) on ∙ rest_is (suc k) in
      let v = verdict q query (ap (slice_get s.queries) here ∙ rest_is 0) in
      let behind = all_plain rest (q + 1) others_at in (
        ap (λ (c : Result ℤ Altered). checked_line (length s.rows) q query c ∷ asked_lines s (pairs_of s) (q + 1) rest) v
            ∙ ap (λ (l : List Line). lines.Answer (Single q) (length s.rows) query.aggregate (plain query s.rows) ∷ l) behind.0,
        ap (λ (c : Result ℤ Altered). is_refused c || some_refused s (pairs_of s) (q + 1) rest) v ∙ behind.1,
      )

ends_plainly : (report report' : List Line) (altered : Bool) (end : Result Stage ℕ) → report ≡ report' → altered ≡ false → EndsIn report altered end → EndsPlainly report' end
ends_plainly report report' altered (Ok stage) same none ends = (ends.0 ∙ same, ends.1 ∙ none)
ends_plainly report report' altered (Err t) same none ends = absurd ends

pub asked_plainly : PlainIsSmall → AskedPlainly
asked_plainly known w s legal =
    let from_none : (k : ℕ) → 0 + k ≡ k = λ k. omega arith in
    let plain_ones = all_plain known w s legal s.queries 0 (λ k. ap (slice_get s.queries) (from_none k)) in
    ends_plainly (asked_lines s (pairs_of s) 0 s.queries) (plain_lines s.rows 0 s.queries) (some_refused s (pairs_of s) 0 s.queries)
    (played (plainly s) (asking s)) plain_ones.0 plain_ones.1 (in_order s (plainly s) (pairs_of s) (λ q lines altered. refl))
