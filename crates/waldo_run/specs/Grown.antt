-- What the servers see of a command's queries, and how the trace of a run grows by it.
use Rattle.std.specs.Prelude.{◌≡◌, ◌≢◌, ◌⊎◌, ℕ, Result, Ok, Err, List, [], length}
use Rattle.fault_count.specs.Streams.{Change}
use Rattle.ring128.specs.declared.memory.Memory.{Memory}
use Rattle.row_source.specs.Input.{Reading, Reads, most_bytes}
use Rattle.row_source.specs.Input.Reading.{Untouched, Whole, Long, Broken}
use Rattle.row_source.specs.declared.faults.RowFault.{RowFault}
use Rattle.schedule_play.specs.Tasks.{scheduled}
use Rattle.schedule_play.specs.Traces.{asked_sizes, sizes_in, traces_of}
use Rattle.table_schema.specs.declared.rows.Row.{Row}
use Rattle.table_schema.specs.declared.widths.Widths.{Widths}
use Rattle.visit_trace.specs.Seen.{AllSeen, Grew, GrewPrefix, alike, nothing}
use Rattle.visit_trace.specs.declared.sizes.Sizes.{Sizes}
use Rattle.waldo_words.specs.declared.command.Command.{Command}
use Rattle.waldo_words.specs.declared.command.Command.TheVariants as commands
use Rattle.waldo_words.specs.declared.faults.WordFault.{WordFault}
use Rattle.waldo_run.specs.Buckets.{group_traces}
use Rattle.waldo_run.specs.Replies.{Reply, Suits}
use Rattle.waldo_run.specs.Tasks.{AreWidthsIn, common_in, rows_in, rows_made, setting_of}

-- The sizes of a command's queries over its rows: of each query those over all rows, or, in a schedule, those of each answer over the rows
-- that its actor agreed on. (A race has steps of its own. A range of places is no query over all rows: its servers read
-- nodes of trees. Queries by the buckets of a column have traces of their own.)
abbrev pub sizes_by : Command → Widths → List Row → List Sizes
sizes_by (commands.Ask common) w rows = asked_sizes w (length rows) common.queries
sizes_by (commands.Replay common schedule) w rows = sizes_in w (scheduled (setting_of common rows) schedule)
sizes_by (commands.Race common writers askers rounds) w rows = []
sizes_by (commands.Make common number count) w rows = asked_sizes w (length rows) common.queries
sizes_by (commands.Trace common) w rows = asked_sizes w (length rows) common.queries
sizes_by (commands.Tamper common shifts) w rows = asked_sizes w (length rows) common.queries
sizes_by (commands.Tree common low high) w rows = []
sizes_by (commands.Groups common groups) w rows = []

-- What the servers see of a command's queries over its rows: the traces of these sizes, one after another; of queries by the buckets of a
-- column the traces of their sizes and of that column
abbrev pub trace_by : Command → Widths → List Row → AllSeen
trace_by (commands.Groups common groups) w rows = group_traces w (length rows) groups
trace_by command w rows = traces_of (sizes_by command w rows)

-- What the trace of a run grew by, where `grew` is said of that part: over rows, what the servers see of the queries
abbrev pub SeesOver : Command → (AllSeen → Type 0) → List Row → Type 0
SeesOver command grew rows = (w : Widths) × AreWidthsIn command w × grew (trace_by command w rows)

-- over rows that may have a fault: nothing, where they have one
abbrev pub SeesIn : Command → (AllSeen → Type 0) → Result (List Row) RowFault → Type 0
SeesIn command grew (Err fault) = grew (alike nothing)
SeesIn command grew (Ok rows) = SeesOver command grew rows

-- over what reading gave: nothing, where the input was not read whole
abbrev pub SeesAt : Command → (AllSeen → Type 0) → Reading → Type 0
SeesAt command grew Untouched = SeesIn command grew (Ok (rows_made command))
SeesAt command grew Broken = grew (alike nothing)
SeesAt command grew Long = grew (alike nothing)
SeesAt command grew (Whole bytes) = SeesIn command grew (rows_in (common_in command) bytes)

-- by words, and the way in which the source was met: nothing, where the words are refused
abbrev pub Sees : Result Command WordFault → Change → (AllSeen → Type 0) → Type 0
Sees (Err fault) source grew = grew (alike nothing)
Sees (Ok command) source grew =
    (reading : Reading) × Suits (Ok command) reading × Reads most_bytes reading source × SeesAt command grew reading

-- out of memory: nothing, or a prefix of this
abbrev pub SeesPart : Result Command WordFault → Change → AllSeen → AllSeen → Type 0
SeesPart command source old new = (new ≡ old) ⊎ Sees command source (GrewPrefix old new)

-- the trace of a run before and after it, by its status: it grew by the traces of the sizes of the queries that were answered; out of
-- memory by a prefix of these
abbrev pub Traces : Result Command WordFault → Change → AllSeen → AllSeen → ℕ → Type 0
Traces command source old new status =
    (status ≢ 6 → Sees command source (Grew old new)) × (status ≡ 6 → SeesPart command source old new)

-- the same of a reply
abbrev pub TracesOf : Result Command WordFault → Change → AllSeen → AllSeen → Result Reply Memory → Type 0
TracesOf command source old new (Ok reply) = Sees command source (Grew old new)
TracesOf command source old new (Err memory) = SeesPart command source old new
