-- What accepted words over an accepted input come to where no read and no put failed and no wire altered a message, unless out of memory.
use Rattle.std.specs.Prelude.{◌≡◌, ◌≤◌, ◌⊎◌, ⊤, ℕ, MatchBool, Option, None, Some, Ok, List, length}
use Rattle.std.specs.Io.KnownBytes.{Appends}
use Rattle.fault_count.specs.Streams.{Change}
use Rattle.race_play.specs.declared.setting.Crew.{Crew}
use Rattle.report_lines.specs.Line.{text_of}
use Rattle.row_source.specs.Input.{most_bytes}
use Rattle.schedule_play.specs.History.{Done}
use Rattle.schedule_play.specs.Plain.{plainly}
use Rattle.schedule_play.specs.Stages.{Stage, played}
use Rattle.schedule_play.specs.Tasks.{Task}
use Rattle.schedule_play.specs.declared.style.Style.{Style}
use Rattle.schedule_play.specs.declared.style.Style.TheVariants.{Queries, Rounds}
use Rattle.table_schema.specs.declared.rows.Row.{Row}
use Rattle.visit_trace.specs.Seen.{AllSeen}
use Rattle.waldo_words.specs.declared.command.Common.{Common}
use Rattle.waldo_words.specs.declared.command.Command.{Command}
use Rattle.wire_line.specs.declared.message.Message.{Message}
use Rattle.wire_line.specs.declared.shifts.Shift.{Shift}
use Rattle.waldo_run.specs.Races.{RacedOver}
use Rattle.waldo_run.specs.Replies.{Reply, checked_answer, plain_answer, rows_reply}
use Rattle.waldo_run.specs.Run.{AskedOver}
use Rattle.waldo_run.specs.Tampered.{shifts_of}
use Rattle.waldo_run.specs.Tasks.{common_in, reads_input, rows_in, rows_made}
use Rattle.waldo_run.specs.Works.{Work, work_over}
use Rattle.waldo_run.specs.Works.Work.{Steps, Range, Buckets}

-- these are the rows of an input that is not too long
abbrev pub GivesRows : Common → Option (List ℕ) → List Row → Type 0
GivesRows common None rows = ⊥
GivesRows common (Some bytes) rows = (length bytes ≤ most_bytes) × (rows_in common bytes ≡ Ok rows)

-- each step of a schedule has a case, its answers being plain; other steps always have one
abbrev pub StepsHaveCases : Style → Task → Type 0
StepsHaveCases Queries task = ⊤
StepsHaveCases Rounds task = (stage : Stage) × (played (plainly task.setting) task ≡ Ok stage)

-- the same of a command's work; and a range asks for no more rows than there are
abbrev pub HaveCases : Work → Type 0
HaveCases (Steps task) = StepsHaveCases task.style task
HaveCases (Range s low high) = high ≤ length s.rows
HaveCases (Buckets bits s groups) = ⊤

-- a command whose input is accepted, or is not read; its rows; and each of its steps has a case
pub record IsAccepted (command : Command) (input : Option (List ℕ)) (rows : List Row) : Type 0 where
  pub gives : MatchBool (reads_input command) (GivesRows (common_in command) input rows) (rows ≡ rows_made command)
  pub cases : HaveCases (work_over command rows)

-- status 0, and the whole text of the plain reply
pub record EndsPlainly (command : Command) (rows : List Row) (sink : Change) (status : ℕ) : Type 0 where
  pub done : status ≡ 0
  pub text : Appends sink.old sink.new (text_of (rows_reply plain_answer command rows).report)

-- Of a command that alters its own messages: the reply to what they opened, with its whole text; its status is 0, or 7 where the check
-- refuses a pair.
pub record EndsChecked (command : Command) (rows : List Row) (carried : List Done → Type 0) (unaltered : ℕ → Type 0)
    (sink : Change) (status : ℕ) : Type 0 where
  pub history : List Done
  pub sent : carried history
  pub asked : AskedOver unaltered command history rows
  pub either : (status ≡ 0) ⊎ (status ≡ 7)
  pub done : status ≡ (rows_reply (checked_answer history) command rows).status
  pub text : Appends sink.old sink.new (text_of (rows_reply (checked_answer history) command rows).report)

abbrev pub EndsWith : Option (List Shift) → Command → List Row → (List Done → Type 0) → (ℕ → Type 0) → Change → ℕ → Type 0
EndsWith None command rows carried unaltered sink status = EndsPlainly command rows sink status
EndsWith (Some shifts) command rows carried unaltered sink status = EndsChecked command rows carried unaltered sink status

-- out of memory, or the end of a command that is accepted
abbrev pub Completes : Command → List Row → (List Done → Type 0) → (ℕ → Type 0) → Change → ℕ → Type 0
Completes command rows carried unaltered sink status =
    (status ≡ 6) ⊎ EndsWith (shifts_of (Ok command)) command rows carried unaltered sink status

-- a race over these rows came to an end: status 0, and the whole text of a report that such a race may have with the messages that were
-- carried; and the trace grew by what the servers see of that report
pub record EndsRaced (common : Common) (crew : Crew) (rows : List Row) (carried : List (List Message) → Type 0)
    (grew : AllSeen → Type 0) (sink : Change) (status : ℕ) : Type 0 where
  pub sent : List (List Message)
  pub went : carried sent
  pub reply : Reply
  pub raced : RacedOver common crew rows sent grew reply
  pub done : status ≡ 0
  pub text : Appends sink.old sink.new (text_of reply.report)
