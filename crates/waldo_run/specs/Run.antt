-- What a run does to its source, its wires and its sink, and with what status it ends.
use Rattle.std.specs.Prelude.{◌≡◌, ◌≢◌, ◌<◌, ◌⊎◌, ⊤, false, ℕ, nat_le, if◌then◌else◌}
use Rattle.std.specs.Prelude.{Result, Ok, Err, OnErr, IfOk, List, [], length}
use Rattle.std.specs.Io.KnownBytes.{Keeps, Appends}
use Rattle.fault_count.specs.Causes.{Rose}
use Rattle.report_lines.specs.Line.{text_of}
use Rattle.report_lines.specs.Sink.{AppendsFront}
use Rattle.row_source.specs.Input.{Reading, Reads, most_bytes}
use Rattle.row_source.specs.Input.Reading.{Untouched, Whole, Long, Broken}
use Rattle.ring128.specs.declared.memory.Memory.{Memory}
use Rattle.row_source.specs.declared.faults.RowFault.{RowFault}
use Rattle.table_schema.specs.declared.rows.Row.{Row}
use Rattle.table_schema.specs.declared.widths.Widths.{Widths}
use Rattle.schedule_play.specs.History.{AreHonest, Done}
use Rattle.waldo_words.specs.declared.command.Command.{Command}
use Rattle.waldo_words.specs.declared.command.Command.TheVariants as commands
use Rattle.waldo_words.specs.declared.faults.WordFault.{WordFault}
use Rattle.waldo_run.specs.Replies.{Reply, IsRefused, Suits, after_failed_put, checked_answer, plain_answer, reply_over, reply_to}
use Rattle.waldo_run.specs.Tasks.{AreWidthsIn, common_in, reads_input, rows_in, rows_made}
use Rattle.waldo_run.specs.Works.{Begins, IsDone, IsPlainly, IsWork, work_over}
use Rattle.fault_count.specs.Streams.{Change}

-- What a command does with its rows: the messages of each answer and what they opened. An unaltered wire changed no message; and each
-- answer whose messages were not changed opened the plain one, whatever was altered before.
pub record AskedOver (unaltered : ℕ → Type 0) (command : Command) (history : List Done) (rows : List Row) : Type 0 where
  pub widths : Widths
  pub of : AreWidthsIn command widths
  pub legal : IsWork widths (work_over command rows)
  pub done : IsDone widths (work_over command rows) history
  pub honest : AreHonest unaltered history
  pub plain : IsPlainly (work_over command rows) history

-- the steps of a command over rows that may have a fault: then no step was done
abbrev pub AskedIn : (ℕ → Type 0) → Command → List Done → Result (List Row) RowFault → Type 0
AskedIn unaltered command history (Err fault) = history ≡ []
AskedIn unaltered command history (Ok rows) = AskedOver unaltered command history rows

-- the steps of the words, over what reading gave
abbrev pub Asked : (ℕ → Type 0) → Result Command WordFault → List Done → Reading → Type 0
Asked unaltered (Err fault) history reading = history ≡ []
Asked unaltered (Ok command) history Untouched = AskedIn unaltered command history (Ok (rows_made command))
Asked unaltered (Ok command) history Broken = history ≡ []
Asked unaltered (Ok command) history Long = history ≡ []
Asked unaltered (Ok command) history (Whole bytes) = AskedIn unaltered command history (rows_in (common_in command) bytes)

-- The source was met in this way, the wires carried the messages of the steps that belong to it, and the reply is the one to what they
-- opened.
pub record Replies (command : Result Command WordFault) (source : Change) (carried : List Done → Type 0)
    (unaltered : ℕ → Type 0) (reply : Reply) : Type 0 where
  pub reading : Reading
  pub suits : Suits command reading
  pub reads : Reads most_bytes reading source
  pub history : List Done
  pub sent : carried history
  pub asked : Asked unaltered command history reading
  pub is : reply ≡ reply_to (checked_answer history) command reading
  pub accepted : ((actor : ℕ) → unaltered actor) → reply.status ≢ 7

-- some first steps of a command over its rows, the last of which may have sent just the first of its messages
pub record BegunOver (command : Command) (history : List Done) (rows : List Row) : Type 0 where
  pub widths : Widths
  pub of : AreWidthsIn command widths
  pub begun : Begins widths (work_over command rows) history

abbrev pub BegunIn : Command → List Done → Result (List Row) RowFault → Type 0
BegunIn command history (Err fault) = history ≡ []
BegunIn command history (Ok rows) = BegunOver command history rows

-- the steps that were begun when memory ran out: none, or first steps over what reading gave
abbrev pub BegunAt : Command → List Done → Reading → Type 0
BegunAt command history Untouched = BegunIn command history (Ok (rows_made command))
BegunAt command history Broken = history ≡ []
BegunAt command history Long = history ≡ []
BegunAt command history (Whole bytes) = BegunIn command history (rows_in (common_in command) bytes)

abbrev pub Begun : Result Command WordFault → List Done → Change → Type 0
Begun (Err fault) history source = history ≡ []
Begun (Ok command) history source =
    (history ≡ []) ⊎ ((reading : Reading) × Suits (Ok command) reading × Reads most_bytes reading source × BegunAt command history reading)

-- Out of memory, the wires carried the first of the messages that the command has, if any.
pub record Breaks (command : Result Command WordFault) (source : Change) (carried : List Done → Type 0) : Type 0 where
  pub history : List Done
  pub sent : carried history
  pub begun : Begun command history source

-- What a command comes to over rows, which may have a fault: the messages of its steps over the wires, and its reply to what they opened;
-- or, out of memory, the messages of first steps.
pub record Answers (command : Command) (rows : Result (List Row) RowFault) (carried : List Done → Type 0)
    (unaltered : ℕ → Type 0) (result : Result Reply Memory) : Type 0 where
  pub history : List Done
  pub sent : carried history
  pub begun : OnErr result (BegunIn command history rows)
  pub asked : IfOk result (λ reply. AskedIn unaltered command history rows)
  pub is : IfOk result (λ reply. reply ≡ reply_over (checked_answer history) command rows)
  pub accepted : IfOk result (λ reply. ((actor : ℕ) → unaltered actor) → reply.status ≢ 7)

-- Whole text and the reply's status, or a failed put.
abbrev pub Puts : Reply → Change → ℕ → Type 0
Puts reply sink status =
    ((status ≡ reply.status) × Appends sink.old sink.new (text_of reply.report) × (sink.now ≡ sink.before))
    ⊎ ((status ≡ after_failed_put reply.status) × AppendsFront sink.old sink.new (text_of reply.report) × Rose sink.before sink.now)

-- The whole run, unless out of memory: some reply to what reading gave, put into the sink. Where no wire was altered it is the plain one.
pub record Runs (command : Result Command WordFault) (source : Change) (carried : List Done → Type 0)
    (unaltered : ℕ → Type 0) (sink : Change) (status : ℕ) : Type 0 where
  pub reply : Reply
  pub replies : Replies command source carried unaltered reply
  pub plain : ((actor : ℕ) → unaltered actor) → reply ≡ reply_to plain_answer command replies.reading
  pub puts : Puts reply sink status

-- nothing was put
abbrev pub IsUnchanged : Change → Type 0
IsUnchanged sink = Keeps sink.old sink.new × (sink.now ≡ sink.before)

-- how an input of these bytes is met where no read fails
abbrev pub reading_of : List ℕ → Reading
reading_of bytes = if nat_le (length bytes) most_bytes then Whole bytes else Long

-- how words that may be refused or read nothing meet an input of these bytes
abbrev pub reading_by : Result Command WordFault → List ℕ → Reading
reading_by (Err fault) bytes = Untouched
reading_by (Ok command) bytes = if reads_input command then reading_of bytes else Untouched

-- the plain reply to the words over an input of these bytes, where no read fails
abbrev pub plain_reply : Result Command WordFault → List ℕ → Reply
plain_reply command bytes = reply_to plain_answer command (reading_by command bytes)

-- fewer rows than a command asks for
abbrev pub LacksRows : Command → List Row → Type 0
LacksRows (commands.Ask common) rows = ⊥
LacksRows (commands.Replay common schedule) rows = ⊥
LacksRows (commands.Race common writers askers rounds) rows = ⊥
LacksRows (commands.Make common number count) rows = ⊥
LacksRows (commands.Trace common) rows = ⊥
LacksRows (commands.Tamper common shifts) rows = ⊥
LacksRows (commands.Tree common low high) rows = length rows < high
LacksRows (commands.Groups common groups) rows = ⊥

-- an input that gives no rows, or fewer than the command asks for
abbrev pub IsRefusedBy : Command → Result (List Row) RowFault → Type 0
IsRefusedBy command (Err fault) = IsRefused (Err fault)
IsRefusedBy command (Ok rows) = LacksRows command rows

-- an input that the command refuses: too long, without rows, or with fewer than it asks for
abbrev pub RefusesInput : Command → List ℕ → Type 0
RefusesInput command bytes = IsRefusedBy command (rows_in (common_in command) bytes)

abbrev pub Refuses : Result Command WordFault → List ℕ → Type 0
Refuses (Err fault) bytes = ⊥
Refuses (Ok command) bytes = (most_bytes < length bytes) ⊎ RefusesInput command bytes

-- words that read nothing of the source: refused ones, and a command that makes its rows
abbrev pub ReadsNothing : Result Command WordFault → Type 0
ReadsNothing (Err fault) = ⊤
ReadsNothing (Ok command) = reads_input command ≡ false

-- a command with a schedule, of which a step may have no case
abbrev pub HasSchedule : Result Command WordFault → Type 0
HasSchedule (Err fault) = ⊥
HasSchedule (Ok (commands.Ask common)) = ⊥
HasSchedule (Ok (commands.Replay common schedule)) = ⊤
HasSchedule (Ok (commands.Race common writers askers rounds)) = ⊥
HasSchedule (Ok (commands.Make common number count)) = ⊥
HasSchedule (Ok (commands.Trace common)) = ⊥
HasSchedule (Ok (commands.Tamper common shifts)) = ⊥
HasSchedule (Ok (commands.Tree common low high)) = ⊥
HasSchedule (Ok (commands.Groups common groups)) = ⊥
