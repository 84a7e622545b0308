-- What an ask did.
use Rattle.std.specs.Prelude.{◌≡◌, ⊤, Result, Ok, Err, List, [], take, ◌⊎◌}
use Rattle.prg_chacha.specs.declared.seed.Seed.{Seed}
use Rattle.query_plan.specs.declared.query.Query.{Query}
use Rattle.server_rounds.specs.declared.opened.OpenedPair.{OpenedPair}
use Rattle.table_schema.specs.declared.widths.Widths.{Widths}
use Rattle.transcript.specs.Transcript.{IsPart}
use Rattle.visit_trace.specs.Expected.{trace_of}
use Rattle.visit_trace.specs.Seen.{AllSeen, Grew, GrewPrefix}
use Rattle.wire_line.specs.declared.message.Message.{Message}
use Rattle.agreed_rows.specs.Agreed.{Entries}
use Rattle.agreed_rows.specs.Answers.{Opens, judged, plain_total, setup_over, sizes_over}
use Rattle.agreed_rows.specs.declared.query.Answered.{Answered}
use Rattle.waldo_table.specs.Tables.{Agrees, Lacks, PassView}
use Rattle.waldo_table.specs.declared.faults.AskFault.{AskFault}
use Rattle.waldo_table.specs.declared.faults.AskFault.TheVariants as ask

-- the first rows of the order that a pass has seen, as many as its floor
abbrev pub rows_of : Widths → PassView → Entries
rows_of w p = record { widths = w; all = take p.floor p.sight.order }

-- an ask that agreed on the rows of the new floor, whose query was carried and opened a pair that the check accepts or refuses; or a
-- server lacked a row, and nothing was carried; or memory ran out, before the three agreed, or after that with the first messages carried
abbrev pub Asked : Widths → PassView → PassView → Query → Seed → List Message → OpenedPair → Result Answered AskFault → Type 0
Asked w p q query seed ms pair (Ok a) =
    Agrees w p q (rows_of w q) × Opens (rows_of w q) query seed ms pair × (judged query seed pair ≡ Ok a.total) × (a.rows ≡ q.floor)
Asked w p q query seed ms pair (Err (ask.Altered total weighted)) =
    Agrees w p q (rows_of w q) × Opens (rows_of w q) query seed ms pair
    × (judged query seed pair ≡ Err (record { total = total; weighted = weighted }))
    × (pair ≡ record { total = total; weighted = weighted })
Asked w p q query seed ms pair (Err (ask.Again k had least)) = (ms ≡ []) × (q.floor ≡ p.floor) × Lacks p q k had least
Asked w p q query seed ms pair (Err ask.Memory) =
    ((ms ≡ []) × (q.floor ≡ p.floor)) ⊎ (Agrees w p q (rows_of w q) × IsPart (setup_over (rows_of w q) query seed) ms)

-- a trace before and after an ask: it grew by the trace of the query's sizes, also where the check refused the pair; where a server
-- lacked a row nothing was added; out of memory a prefix of that trace
abbrev pub AsksTrace : Widths → PassView → Query → AllSeen → AllSeen → Result Answered AskFault → Type 0
AsksTrace w q query old new (Ok a) = Grew old new (trace_of (sizes_over (rows_of w q) query))
AsksTrace w q query old new (Err (ask.Altered total weighted)) = Grew old new (trace_of (sizes_over (rows_of w q) query))
AsksTrace w q query old new (Err (ask.Again k had least)) = new ≡ old
AsksTrace w q query old new (Err ask.Memory) = GrewPrefix old new (trace_of (sizes_over (rows_of w q) query))

-- an answer is the plain one over the rows of the floor
abbrev pub IsPlainAsk : Widths → PassView → Query → Result Answered AskFault → Type 0
IsPlainAsk w q query (Ok a) = a.total ≡ plain_total (rows_of w q) query
IsPlainAsk w q query (Err (ask.Altered total weighted)) = ⊥
IsPlainAsk w q query (Err (ask.Again k had least)) = ⊤
IsPlainAsk w q query (Err ask.Memory) = ⊤

abbrev pub IsNeverAgain : Result Answered AskFault → Type 0
IsNeverAgain (Ok a) = ⊤
IsNeverAgain (Err (ask.Altered total weighted)) = ⊤
IsNeverAgain (Err (ask.Again k had least)) = ⊥
IsNeverAgain (Err ask.Memory) = ⊤
