-- What the definitions say together.
use Rattle.std.specs.Prelude.{ℕ, ℤ, ◌≡◌, ◌+◌, ◌*◌, ⊤, false, Some, Result, Ok, Err, List, [], ◌∷◌, length, map, slice_get}
use Rattle.query_plan.specs.Query.{shaped}
use Rattle.query_plan.specs.Seeds.{weights_of}
use Rattle.query_plan.specs.Views.{key_from}
use Rattle.query_plan.specs.declared.query.Query.{Query}
use Rattle.report_lines.specs.declared.lines.Line.{Line}
use Rattle.report_lines.specs.declared.lines.Line.TheVariants as lines
use Rattle.report_lines.specs.declared.lines.Who.TheVariants.{Single}
use Rattle.server_rounds.specs.declared.opened.OpenedPair.{OpenedPair}
use Rattle.prg_chacha.specs.Prg.{derive_of}
use Rattle.table_schema.specs.declared.widths.Widths.{Widths}
use Rattle.transcript.specs.Plain.{plain}
use Rattle.visit_trace.specs.Seen.{AllSeen, Grew}
use Rattle.wire_line.specs.Messages.{IsHonest}
use Rattle.wire_line.specs.declared.message.Message.{Message}
use Rattle.weighted_check.specs.Check.{checked}
use Rattle.weighted_check.specs.declared.Altered.{Altered}
use Rattle.schedule_play.specs.History.{AreHonest, Done, HasHistory, messages_at, opened_in, pair_at}
use Rattle.schedule_play.specs.Plain.{ArePlain, plain_lines, plainly}
use Rattle.schedule_play.specs.Stages.{Stage, first_stage, played}
use Rattle.schedule_play.specs.declared.style.Style.TheVariants.{Queries}
use Rattle.schedule_play.specs.Tasks.{IsSetting, Setting, Task, asking}
use Rattle.schedule_play.specs.Traces.{asked_sizes, sizes_in, traces_of}

-- the line of query i over n rows, by what the check says
abbrev pub checked_line : ℕ → ℕ → Query → Result ℤ Altered → Line
checked_line n i query (Ok total) = lines.Answer (Single i) n query.aggregate total
checked_line n i query (Err pair) = lines.Altered (Single i) n pair.total pair.weighted

-- the lines of queries over all rows, the first of which has this number, by the pairs that they opened
abbrev pub asked_lines : Setting → (ℕ → OpenedPair) → ℕ → List Query → List Line
asked_lines s pairs i [] = []
asked_lines s pairs i (q ∷ qs) =
    let pair = pairs i in
    let key = key_from (weights_of (derive_of s.master 2 0 i) 1) q.count in
    checked_line (length s.rows) i q (checked pair.total pair.weighted key) ∷ asked_lines s pairs (i + 1) qs

-- the pair that query i opened: its answer is the last of four steps, and those of all rows come before
abbrev pub pair_of_query : Setting → List Done → ℕ → OpenedPair
pair_of_query s history i = pair_at history (4 * length s.rows + 4 * i + 3)

-- the last stage has these lines
abbrev pub EndsInLines : List Line → Result Stage ℕ → Type 0
EndsInLines report (Ok stage) = stage.lines ≡ report
EndsInLines report (Err t) = ⊥

-- Rows that are appended one after another and then asked each query: no step is without a case, and each query has one line, over all
-- rows, by the pair that it opened.
abbrev pub AskedInOrder : Type 0
AskedInOrder = (w : Widths) (s : Setting) (history : List Done) → IsSetting w s
    → EndsInLines (asked_lines s (pair_of_query s history) 0 s.queries) (played (opened_in history) (asking s))

-- the same, and no check refused a pair
abbrev pub EndsPlainly : List Line → Result Stage ℕ → Type 0
EndsPlainly report (Ok stage) = (stage.lines ≡ report) × (stage.altered ≡ false)
EndsPlainly report (Err t) = ⊥

-- Where nothing is altered, each line is the plain answer over all rows.
abbrev pub AskedPlainly : Type 0
AskedPlainly = (w : Widths) (s : Setting) → IsSetting w s → EndsPlainly (plain_lines s.rows 0 s.queries) (played (plainly s) (asking s))

-- the messages of query i
abbrev pub messages_of_query : Setting → List Done → ℕ → List Message
messages_of_query s history i = messages_at history (4 * length s.rows + 4 * i + 3)

-- the last stage has this line at place i
abbrev pub HasLine : ℕ → Line → Result Stage ℕ → Type 0
HasLine i line (Ok stage) = slice_get stage.lines i ≡ Some line
HasLine i line (Err t) = ⊥

-- A query whose messages were received as they were sent has its plain answer in its line, whatever was altered in the others.
abbrev pub AskedHonestly : Type 0
AskedHonestly = (w : Widths) (s : Setting) (history : List Done) → IsSetting w s → HasHistory w (asking s) history
    → ArePlain s Queries first_stage history
    → (i : ℕ) (query : Query) → slice_get s.queries i ≡ Some query → IsHonest (messages_of_query s history i)
    → HasLine i (lines.Answer (Single i) (length s.rows) query.aggregate (plain query s.rows))
    (played (opened_in history) (asking s))

-- Where each message was received as it was sent, and what such answers opened is plain, steps come to what they come to plainly.
abbrev pub PlainlyPlayed : Type 0
PlainlyPlayed = (w : Widths) (task : Task) (history : List Done) → HasHistory w task history
    → AreHonest (λ actor. ⊤) history → ArePlain task.setting task.style first_stage history
    → played (opened_in history) task ≡ played (plainly task.setting) task

-- Queries of equal shapes, each asked over as many rows of the same widths as the other: from the same trace on, each server has the same
-- visits and the same lengths of messages in the end, whatever the bounds, and whatever the rows hold and the seeds are.
abbrev pub SeenAlike : Type 0
SeenAlike = (w : Widths) (n : ℕ) (queries others : List Query) → map shaped queries ≡ map shaped others
    → (before after last : AllSeen) → Grew before after (traces_of (asked_sizes w n queries))
    → Grew before last (traces_of (asked_sizes w n others)) → after ≡ last

-- Tasks of the same steps, over as many rows of the same widths and with queries of the same shapes, have answers of the same sizes.
abbrev pub SizesAlike : Type 0
SizesAlike = (w : Widths) (a b : Task) → a.steps ≡ b.steps → length a.setting.rows ≡ length b.setting.rows
    → map shaped a.setting.queries ≡ map shaped b.setting.queries
    → sizes_in w a ≡ sizes_in w b

-- So from the same trace on, each server has the same visits and the same lengths of messages in the end, whatever the bounds of the
-- queries are, what the rows hold, and the seeds.
abbrev pub SchedulesAlike : Type 0
SchedulesAlike = (w : Widths) (a b : Task) → a.steps ≡ b.steps → length a.setting.rows ≡ length b.setting.rows
    → map shaped a.setting.queries ≡ map shaped b.setting.queries
    → (before after last : AllSeen) → Grew before after (traces_of (sizes_in w a)) → Grew before last (traces_of (sizes_in w b))
    → after ≡ last
