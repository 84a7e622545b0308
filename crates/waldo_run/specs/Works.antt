-- What a command does with its rows: which messages it has, and what they open.
use Rattle.std.specs.Prelude.{◌≡◌, ℕ, List}
use Rattle.query_plan.specs.declared.group.GroupQuery.{GroupQuery}
use Rattle.schedule_play.specs.History.{Done, HasBroken, HasHistory}
use Rattle.schedule_play.specs.Plain.{ArePlain}
use Rattle.schedule_play.specs.Stages.{first_stage}
use Rattle.schedule_play.specs.Tasks.{IsSetting, Setting, Task}
use Rattle.table_schema.specs.declared.rows.Row.{Row}
use Rattle.table_schema.specs.declared.widths.Widths.{Widths}
use Rattle.waldo_words.specs.declared.command.Command.{Command}
use Rattle.waldo_words.specs.declared.command.Command.TheVariants as commands
use Rattle.waldo_run.specs.Buckets.{AreBuckets, ArePlainBuckets, BeginsBuckets, HasBuckets}
use Rattle.waldo_run.specs.Tasks.{bits_of, setting_of, task_over}
use Rattle.waldo_run.specs.Trees.{BeginsRange, HasRange, IsPlainRange, IsRange}

-- the steps of a task; or the one query of a setting over the rows at the places from low to high - 1; or queries by the buckets of a
-- column over all rows, with the bits of the columns
pub data Work : Type 0 where
  Steps : Task → Work
  Range : Setting → ℕ → ℕ → Work
  Buckets : List ℕ → Setting → List GroupQuery → Work

abbrev pub work_over : Command → List Row → Work
work_over (commands.Ask common) rows = Steps (task_over (commands.Ask common) rows)
work_over (commands.Replay common schedule) rows = Steps (task_over (commands.Replay common schedule) rows)
work_over (commands.Race common writers askers rounds) rows = Steps (task_over (commands.Race common writers askers rounds) rows)
work_over (commands.Make common number count) rows = Steps (task_over (commands.Make common number count) rows)
work_over (commands.Trace common) rows = Steps (task_over (commands.Trace common) rows)
work_over (commands.Tamper common shifts) rows = Steps (task_over (commands.Tamper common shifts) rows)
work_over (commands.Tree common low high) rows = Range (setting_of common rows) low high
work_over (commands.Groups common groups) rows = Buckets (bits_of common) (setting_of common rows) groups

-- a command that plays its steps alone
abbrev pub PlaysSteps : Command → List Row → Type 0
PlaysSteps command rows = work_over command rows ≡ Steps (task_over command rows)

-- its rows are held by the widths, and its queries are legal
abbrev pub IsWork : Widths → Work → Type 0
IsWork w (Steps task) = IsSetting w task.setting
IsWork w (Range s low high) = IsRange w s low high
IsWork w (Buckets bits s groups) = AreBuckets w s groups

-- all its messages, and what they opened
abbrev pub IsDone : Widths → Work → List Done → Type 0
IsDone w (Steps task) history = HasHistory w task history
IsDone w (Range s low high) history = HasRange w s low high history
IsDone w (Buckets bits s groups) history = HasBuckets w s 0 groups history

-- the first of its messages, if any
abbrev pub Begins : Widths → Work → List Done → Type 0
Begins w (Steps task) history = HasBroken w task history
Begins w (Range s low high) history = BeginsRange w s low high history
Begins w (Buckets bits s groups) history = BeginsBuckets w s 0 groups history

-- whatever was received as it was sent opened the plain answer
abbrev pub IsPlainly : Work → List Done → Type 0
IsPlainly (Steps task) history = ArePlain task.setting task.style first_stage history
IsPlainly (Range s low high) history = IsPlainRange s low high history
IsPlainly (Buckets bits s groups) history = ArePlainBuckets bits s 0 groups history
