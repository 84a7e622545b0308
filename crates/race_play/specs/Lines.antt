-- The line of an agreement, and of an ask.
use Rattle.std.specs.Prelude.{ℕ, ℤ, Result, Ok, Err, length}
use Rattle.report_lines.specs.declared.lines.Line.{Line}
use Rattle.report_lines.specs.declared.lines.Line.TheVariants as lines
use Rattle.report_lines.specs.declared.lines.Who.{Who}
use Rattle.ring128.specs.declared.memory.Memory.{Memory}
use Rattle.table_schema.specs.declared.shapes.Aggregate.{Aggregate}
use Rattle.agreed_rows.specs.Agreed.{Entries}
use Rattle.agreed_rows.specs.declared.query.Answered.{Answered}
use Rattle.waldo_table.specs.declared.faults.AgreeFault.{AgreeFault}
use Rattle.waldo_table.specs.declared.faults.AgreeFault.TheVariants as agree
use Rattle.waldo_table.specs.declared.faults.AskFault.{AskFault}
use Rattle.waldo_table.specs.declared.faults.AskFault.TheVariants as ask
use Rattle.weighted_check.specs.declared.Altered.{Altered}

abbrev pub line_of_fault : ℕ → AgreeFault → Result Line Memory
line_of_fault writer (agree.Again server had floor) = Ok (lines.BackAgain writer server had floor)
line_of_fault writer agree.Memory = Err (record {})

-- a writer's line: over how many rows the three servers agreed, or why they did not
abbrev pub line_of_back : ℕ → Result Entries AgreeFault → Result Line Memory
line_of_back writer (Ok a) = Ok (lines.Back writer (length a.all))
line_of_back writer (Err fault) = line_of_fault writer fault

abbrev pub line_of_ask : Who → ℕ → Aggregate → Result Answered AskFault → Result Line Memory
line_of_ask who rows aggregate (Ok a) = Ok (lines.Answer who rows aggregate a.total)
line_of_ask who rows aggregate (Err (ask.Altered total weighted)) = Ok (lines.Altered who rows total weighted)
line_of_ask who rows aggregate (Err (ask.Again server had floor)) = Err (record {})
line_of_ask who rows aggregate (Err ask.Memory) = Err (record {})

-- the line of what the check says over this number of rows: the total, or the pair that it refuses
abbrev pub answer_line : Who → ℕ → Aggregate → Result ℤ Altered → Line
answer_line who rows aggregate (Ok total) = lines.Answer who rows aggregate total
answer_line who rows aggregate (Err pair) = lines.Altered who rows pair.total pair.weighted
