-- The rows and the steps of each command.
use Rattle.std.specs.Prelude.{ℕ, Bool, true, false, Result, List, [], map}
use Rattle.query_plan.specs.Query.{AreWidthsOf}
use Rattle.row_source.specs.Rows.{rows_of, input_records}
use Rattle.row_source.specs.declared.faults.RowFault.{RowFault}
use Rattle.table_schema.specs.declared.rows.Row.{Row}
use Rattle.table_schema.specs.declared.schema.Column.{Column}
use Rattle.table_schema.specs.declared.widths.Widths.{Widths}
use Rattle.waldo_words.specs.declared.command.Common.{Common}
use Rattle.waldo_words.specs.declared.command.Command.{Command}
use Rattle.waldo_words.specs.declared.command.Command.TheVariants as commands
use Rattle.schedule_play.specs.Tasks.{Setting, Task, asking, scheduled}
use Rattle.waldo_run.specs.Made.{made_rows}

-- what the options have in common
abbrev pub common_in : Command → Common
common_in (commands.Ask common) = common
common_in (commands.Replay common schedule) = common
common_in (commands.Race common writers askers rounds) = common
common_in (commands.Make common number rows) = common
common_in (commands.Trace common) = common
common_in (commands.Tamper common shifts) = common
common_in (commands.Tree common low high) = common
common_in (commands.Groups common groups) = common

-- the bits of the columns
abbrev pub bits_of : Common → List ℕ
bits_of common = map (λ (c : Column). c.bits) common.schema

-- the rows, the queries and the master seed of a command
abbrev pub setting_of : Common → List Row → Setting
setting_of common rows = record { rows = rows; queries = common.queries; master = common.seed }

-- The steps of a command over its rows: those of a schedule, or each row is appended and then each query is asked. (A command that is not
-- built yet is refused before.)
abbrev pub task_over : Command → List Row → Task
task_over (commands.Ask common) rows = asking (setting_of common rows)
task_over (commands.Replay common schedule) rows = scheduled (setting_of common rows) schedule
task_over (commands.Race common writers askers rounds) rows = asking (setting_of common rows)
task_over (commands.Make common number count) rows = asking (setting_of common rows)
task_over (commands.Trace common) rows = asking (setting_of common rows)
task_over (commands.Tamper common shifts) rows = asking (setting_of common rows)
task_over (commands.Tree common low high) rows = asking (setting_of common rows)
task_over (commands.Groups common groups) rows = asking (setting_of common rows)

-- whether a command reads its rows from the input; else it makes them
abbrev pub reads_input : Command → Bool
reads_input (commands.Ask common) = true
reads_input (commands.Replay common schedule) = true
reads_input (commands.Race common writers askers rounds) = true
reads_input (commands.Make common number count) = false
reads_input (commands.Trace common) = true
reads_input (commands.Tamper common shifts) = true
reads_input (commands.Tree common low high) = true
reads_input (commands.Groups common groups) = true

-- the rows of an input, at most as many as the capacity, or its first fault
abbrev pub rows_in : Common → List ℕ → Result (List Row) RowFault
rows_in common bytes = rows_of common.schema common.capacity (input_records bytes)

-- the rows that a command makes
abbrev pub rows_made : Command → List Row
rows_made (commands.Ask common) = []
rows_made (commands.Replay common schedule) = []
rows_made (commands.Race common writers askers rounds) = []
rows_made (commands.Make common number count) = made_rows (bits_of common) number count
rows_made (commands.Trace common) = []
rows_made (commands.Tamper common shifts) = []
rows_made (commands.Tree common low high) = []
rows_made (commands.Groups common groups) = []

-- the widths of a command's columns
abbrev pub AreWidthsIn : Command → Widths → Type 0
AreWidthsIn command w = let common = common_in command in AreWidthsOf common.schema w
