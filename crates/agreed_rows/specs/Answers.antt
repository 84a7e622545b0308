-- The messages of a query over rows that were agreed on, what they open, and the answer.
use Rattle.std.specs.Prelude.{◌≡◌, ℕ, ℤ, ⊤, Result, Ok, Err, List, length, map}
use Rattle.prg_chacha.specs.declared.seed.Seed.{Seed}
use Rattle.query_plan.specs.Seeds.{weights_of}
use Rattle.query_plan.specs.Views.{key_from}
use Rattle.query_plan.specs.declared.query.Query.{Query}
use Rattle.server_rounds.specs.declared.opened.OpenedPair.{OpenedPair}
use Rattle.table_schema.specs.declared.rows.Row.{Row}
use Rattle.transcript.specs.Plain.{plain}
use Rattle.transcript.specs.Rows.{pieces_over}
use Rattle.transcript.specs.Setup.{Setup, Sizes}
use Rattle.transcript.specs.Formulas.{setup_for}
use Rattle.transcript.specs.Transcript.{IsPart, IsTranscript, opened_of}
use Rattle.query_plan.specs.Query.{shaped}
use Rattle.visit_trace.specs.Expected.{trace_of}
use Rattle.visit_trace.specs.Seen.{AllSeen, Grew, GrewPrefix}
use Rattle.weighted_check.specs.Check.{checked}
use Rattle.weighted_check.specs.declared.Altered.{Altered}
use Rattle.wire_line.specs.declared.message.Message.{Message}
use Rattle.agreed_rows.specs.Agreed.{Entries}
use Rattle.agreed_rows.specs.declared.query.Answered.{Answered}
use Rattle.agreed_rows.specs.declared.query.AnswerFault.{AnswerFault}
use Rattle.agreed_rows.specs.declared.query.AnswerFault.TheVariants as faults

-- a query with its seed over the rows
abbrev pub setup_over : Entries → Query → Seed → Setup
setup_over e query seed = setup_for query e.widths seed (length e.all) (pieces_over e.widths e.all)

-- these are all messages of a query over the rows, and they open this pair
pub record Opens (e : Entries) (query : Query) (seed : Seed) (ms : List Message) (pair : OpenedPair) : Type 0 where
  pub transcript : IsTranscript (setup_over e query seed) ms
  pub total : pair.total ≡ opened_of (setup_over e query seed) ms 0
  pub weighted : pair.weighted ≡ opened_of (setup_over e query seed) ms 1

-- the rows without their seeds
abbrev pub rows_in : List (Row × Seed) → List Row
rows_in entries = map (λ (entry : Row × Seed). entry.0) entries

-- the plain answer over the rows
abbrev pub plain_total : Entries → Query → ℤ
plain_total e query = plain query (rows_in e.all)

-- what the check says of a pair that a query opened
abbrev pub judged : Query → Seed → OpenedPair → Result ℤ Altered
judged query seed pair = checked pair.total pair.weighted (key_from (weights_of seed 1) query.count)

-- the answer over n rows, by what the check says
abbrev pub answered_by : ℕ → Result ℤ Altered → Result Answered AnswerFault
answered_by n (Ok total) = Ok (record { rows = n; total = total })
answered_by n (Err pair) = Err (faults.Altered pair.total pair.weighted)

-- the messages that were carried: those of the whole query, which open a pair that the check accepts or refuses; out of memory,
-- the first of them
abbrev pub Answers : Entries → Query → Seed → List Message → OpenedPair → Result Answered AnswerFault → Type 0
Answers e query seed ms pair (Ok a) = Opens e query seed ms pair × (judged query seed pair ≡ Ok a.total) × (a.rows ≡ length e.all)
Answers e query seed ms pair (Err (faults.Altered total weighted)) =
    Opens e query seed ms pair × (judged query seed pair ≡ Err (record { total = total; weighted = weighted }))
    × (pair ≡ record { total = total; weighted = weighted })
Answers e query seed ms pair (Err faults.Memory) = IsPart (setup_over e query seed) ms

-- the sizes of a query over the rows
abbrev pub sizes_over : Entries → Query → Sizes
sizes_over e query = record { rows = length e.all; widths = e.widths; shape = shaped query }

-- a trace before and after a query over the rows: it grew by the trace of the sizes, also where the check refused the pair; out of
-- memory by a prefix of that
abbrev pub AddsTrace : Entries → Query → AllSeen → AllSeen → Result Answered AnswerFault → Type 0
AddsTrace e query old new (Ok a) = Grew old new (trace_of (sizes_over e query))
AddsTrace e query old new (Err (faults.Altered total weighted)) = Grew old new (trace_of (sizes_over e query))
AddsTrace e query old new (Err faults.Memory) = GrewPrefix old new (trace_of (sizes_over e query))

-- an answer is the plain one, and there is no other fault than out of memory
abbrev pub IsPlainAnswer : Entries → Query → Result Answered AnswerFault → Type 0
IsPlainAnswer e query (Ok a) = a.total ≡ plain_total e query
IsPlainAnswer e query (Err (faults.Altered total weighted)) = ⊥
IsPlainAnswer e query (Err faults.Memory) = ⊤
