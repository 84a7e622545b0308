-- The reply to each command and each way in which the input was met.
use Rattle.std.specs.Prelude.{◌≡◌, ◌≢◌, ℕ, ℤ, zero, suc, if◌then◌else◌, nat_lt, MatchBool, Result, Ok, Err, List, [], ◌∷◌, length, map}
use Rattle.std.specs.List.{list_any}
use Rattle.query_plan.specs.Query.{shaped}
use Rattle.query_plan.specs.declared.query.Query.{Query}
use Rattle.row_source.specs.Input.{Reading}
use Rattle.row_source.specs.Input.Reading.{Untouched, Whole, Long, Broken}
use Rattle.row_source.specs.declared.faults.RowFault.{RowFault}
use Rattle.row_source.specs.declared.faults.RowFault.TheVariants as row
use Rattle.row_source.specs.declared.input.ReadFault.{ReadFault}
use Rattle.row_source.specs.declared.input.ReadFault.TheVariants as input
use Rattle.race_play.specs.Reports.{is_altered}
use Rattle.report_lines.specs.declared.lines.Line.{Line}
use Rattle.report_lines.specs.declared.lines.Line.TheVariants as lines
use Rattle.table_schema.specs.declared.rows.Row.{Row}
use Rattle.row_tree.specs.Cover.{cover_of}
use Rattle.weighted_check.specs.declared.Altered.{Altered}
use Rattle.schedule_play.specs.History.{Done, opened_in, pair_at}
use Rattle.schedule_play.specs.Plain.{plain_lines, plainly}
use Rattle.schedule_play.specs.Stages.{Stage, played}
use Rattle.schedule_play.specs.Tasks.{Setting, Task}
use Rattle.schedule_play.specs.declared.play.PlayFault.{PlayFault}
use Rattle.schedule_play.specs.declared.play.PlayFault.TheVariants.{NotAllowed, Memory}
use Rattle.schedule_play.specs.declared.play.Played.{Played}
use Rattle.schedule_play.specs.declared.style.Style.{Style}
use Rattle.schedule_play.specs.declared.style.Style.TheVariants.{Queries, Rounds}
use Rattle.waldo_words.specs.declared.command.Command.{Command}
use Rattle.waldo_words.specs.declared.command.Command.TheVariants as commands
use Rattle.waldo_words.specs.declared.faults.WordFault.{WordFault}
use Rattle.waldo_words.specs.declared.faults.WordFault.TheVariants as words
use Rattle.waldo_run.specs.Buckets.{checked_lines, plain_group_lines}
use Rattle.waldo_run.specs.Tasks.{bits_of, common_in, reads_input, rows_in, rows_made}
use Rattle.waldo_run.specs.Traces.{noted_over, traced}
use Rattle.waldo_run.specs.Trees.{judged_in, plain_count}
use Rattle.waldo_run.specs.Works.{Work, work_over}
use Rattle.waldo_run.specs.Works.Work.{Steps, Range, Buckets}

-- a status and a report
pub record Reply : Type 0 where
  pub status : ℕ
  pub report : List Line

abbrev pub single : ℕ → Line → Reply
single status line = record { status = status; report = line ∷ [] }

-- no reply: never met
abbrev pub no_reply : Reply
no_reply = record { status = 6; report = [] }

-- the reply to words that are refused
abbrev pub refusal : WordFault → Reply
refusal (words.Word index) = single 2 (lines.BadWord index)
refusal (words.Missing name) = single 2 (lines.Missing name)
refusal words.Memory = no_reply

-- the reply to an input that was not read whole
abbrev pub unread : ReadFault → Reply
unread input.Failed = single 3 lines.ReadFault
unread input.TooLong = single 5 lines.TooLong
unread input.Memory = no_reply

-- the reply to an input that is refused
abbrev pub row_refusal : RowFault → Reply
row_refusal row.Header = single 5 lines.Header
row_refusal (row.BadRecord number why) = single 5 (lines.BadRecord number why)
row_refusal (row.TooMany capacity) = single 5 (lines.TooMany capacity)
row_refusal row.Memory = no_reply

-- the reply to what steps came to: their lines, or the first step without a case, alone
abbrev pub ended : Result Stage ℕ → Reply
ended (Ok stage) = record { status = if stage.altered then 7 else 0; report = stage.lines }
ended (Err t) = single 2 (lines.BadStep t)

-- the reply to what steps came to, as the code has it; out of memory there is none
abbrev pub IsReplyOf : Result Played PlayFault → Reply → Type 0
IsReplyOf (Ok p) reply = reply ≡ record { status = if p.altered then 7 else 0; report = p.report }
IsReplyOf (Err (NotAllowed t)) reply = reply ≡ single 2 (lines.BadStep t)
IsReplyOf (Err Memory) reply = ⊥

-- how a command's work is answered: by what its answers opened, or plainly
abbrev pub Answering : Type 0
Answering = Work → Reply

-- the line of a range, by what the check says of the pair that was opened; or that there are fewer rows than it asks for
abbrev pub range_line : ℕ → ℕ → Result ℤ Altered → Reply
range_line low high (Ok total) = single 0 (lines.Tree low high total (length (cover_of low high)))
range_line low high (Err pair) = single 7 (lines.TreeAltered pair.total pair.weighted)

abbrev pub range_reply : Setting → ℕ → ℕ → Result ℤ Altered → Reply
range_reply s low high said = if nat_lt (length s.rows) high then single 5 (lines.TooFew high) else range_line low high said

-- the reply of lines: 7 where one of them is that of a refused pair
abbrev pub lines_reply : List Line → Reply
lines_reply report = record { status = if list_any is_altered report then 7 else 0; report = report }

abbrev pub checked_answer : List Done → Answering
checked_answer history (Steps task) = ended (played (opened_in history) task)
checked_answer history (Range s low high) = range_reply s low high (judged_in s (pair_at history 0))
checked_answer history (Buckets bits s groups) = lines_reply (checked_lines bits s 0 groups history)

-- rows that are appended and then asked: the plain answer of each query over all of them; a schedule: the core's replies, with each answer
-- plain
abbrev pub plain_in : Style → Task → Reply
plain_in Queries task = record { status = 0; report = plain_lines task.setting.rows 0 task.setting.queries }
plain_in Rounds task = ended (played (plainly task.setting) task)

-- of a range, how many of its rows pass; of queries by buckets, the plain answer over the rows of each bucket
abbrev pub plain_answer : Answering
plain_answer (Steps task) = plain_in task.style task
plain_answer (Range s low high) = range_reply s low high (Ok (plain_count s low high))
plain_answer (Buckets bits s groups) = lines_reply (plain_group_lines bits s 0 groups)

-- the reply to a command's work, as the command reports it: `trace` has what the servers saw in place of the answers
abbrev pub reported : Command → List Row → Reply → Reply
reported (commands.Trace common) rows reply =
    let seen = map (λ (q : Query). noted_over (bits_of common) (length rows) (shaped q)) common.queries in
    record { status = reply.status; report = traced 0 seen reply.report }
reported command rows reply = reply

-- the reply of a command to its rows
abbrev pub rows_reply : Answering → Command → List Row → Reply
rows_reply answer command rows = reported command rows (answer (work_over command rows))

-- the same, or the reply to the first fault of its input
abbrev pub reply_over : Answering → Command → Result (List Row) RowFault → Reply
reply_over answer command (Err fault) = row_refusal fault
reply_over answer command (Ok rows) = rows_reply answer command rows

-- The reply to the words, over what reading gave, by how its work is answered. The order of refusals is the order of these cases.
abbrev pub reply_to : Answering → Result Command WordFault → Reading → Reply
reply_to answer (Err fault) reading = refusal fault
reply_to answer (Ok command) Untouched = reply_over answer command (Ok (rows_made command))
reply_to answer (Ok command) Broken = single 3 lines.ReadFault
reply_to answer (Ok command) Long = single 5 lines.TooLong
reply_to answer (Ok command) (Whole bytes) = reply_over answer command (rows_in (common_in command) bytes)

-- the words are refused before any read, and just the commands that read do so
abbrev pub Suits : Result Command WordFault → Reading → Type 0
Suits (Err fault) reading = reading ≡ Untouched
Suits (Ok command) reading = MatchBool (reads_input command) (reading ≢ Untouched) (reading ≡ Untouched)

-- an input that gives no rows
abbrev pub IsRefused : Result (List Row) RowFault → Type 0
IsRefused (Err fault) = fault ≢ row.Memory
IsRefused (Ok rows) = ⊥

-- a failed put turns status 0 into 4, and no other status
abbrev pub after_failed_put : ℕ → ℕ
after_failed_put zero = 4
after_failed_put (suc n) = suc n
