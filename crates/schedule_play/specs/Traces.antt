-- What the servers see of steps: of each answer the trace of its sizes, and of any other step nothing.
use Rattle.std.specs.Prelude.{ℕ, Option, Some, None, Result, Ok, Err, List, [], ◌∷◌, ◌++◌, map, slice_get}
use Rattle.query_plan.specs.Query.{shaped}
use Rattle.query_plan.specs.declared.query.Query.{Query}
use Rattle.table_schema.specs.declared.widths.Widths.{Widths}
use Rattle.visit_trace.specs.Expected.{trace_of}
use Rattle.visit_trace.specs.Growing.{seen_then}
use Rattle.visit_trace.specs.Seen.{AllSeen, Grew, GrewPrefix, alike, nothing}
use Rattle.visit_trace.specs.declared.sizes.Sizes.{Sizes}
use Rattle.waldo_core.specs.Answers.{rows_agreed}
use Rattle.waldo_core.specs.Core.{Core}
use Rattle.waldo_core.specs.declared.events.Event.{Event}
use Rattle.waldo_core.specs.declared.events.Event.TheVariants as events
use Rattle.waldo_words.specs.declared.schedule.Step.{Step}
use Rattle.schedule_play.specs.History.{nothing_opened}
use Rattle.schedule_play.specs.Stages.{Stage, event_of, first_stage, next_stage}
use Rattle.schedule_play.specs.Tasks.{Setting, Task}
use Rattle.schedule_play.specs.declared.play.PlayFault.{PlayFault}
use Rattle.schedule_play.specs.declared.play.PlayFault.TheVariants.{NotAllowed, Memory}
use Rattle.schedule_play.specs.declared.style.Style.TheVariants.{Queries}

-- the sizes of a query over n rows: their number, the widths, and the query's shape
abbrev pub sizes_over : Widths → ℕ → Query → Sizes
sizes_over w n query = record { rows = n; widths = w; shape = shaped query }

-- those of queries over the same rows
abbrev pub asked_sizes : Widths → ℕ → List Query → List Sizes
asked_sizes w n queries = map (sizes_over w n) queries

-- the sizes of an answer: those of its query over the rows that its actor agreed on, if it did; any other event has none
abbrev pub agreed_sizes : Widths → Option ℕ → Query → List Sizes
agreed_sizes w None query = []
agreed_sizes w (Some n) query = sizes_over w n query ∷ []

abbrev pub event_sizes : Widths → Core → Option Event → List Sizes
event_sizes w core None = []
event_sizes w core (Some (events.Draw number row seed)) = []
event_sizes w core (Some (events.Place number k)) = []
event_sizes w core (Some (events.Look number k)) = []
event_sizes w core (Some (events.Fix number)) = []
event_sizes w core (Some (events.Answer number query seed)) = agreed_sizes w (rows_agreed (slice_get core.actors number)) query

-- what comes behind a step, where it has a case
abbrev pub sizes_behind : (Stage → List Sizes) → Option Stage → List Sizes
sizes_behind rest None = []
sizes_behind rest (Some next) = rest next

-- The sizes of the answers among steps from a stage on, in order, up to the first step without a case. They don't depend on what an answer
-- opens, nor on how the steps are reported.
abbrev pub sizes_from : Widths → Setting → Stage → List Step → List Sizes
sizes_from w s stage [] = []
sizes_from w s stage (x ∷ xs) =
    event_sizes w stage.core (event_of s stage x)
    ++ sizes_behind (λ (next : Stage). sizes_from w s next xs) (next_stage s Queries stage x nothing_opened)

-- the same of all steps of a task
abbrev pub sizes_in : Widths → Task → List Sizes
sizes_in w task = sizes_from w task.setting first_stage task.steps

-- the traces of these sizes, one after another
abbrev pub traces_of : List Sizes → AllSeen
traces_of [] = alike nothing
traces_of (z ∷ zs) = seen_then (trace_of z) (traces_of zs)

-- a trace before and after steps with answers of these sizes, not all of which were done: it grew by their traces, of those in front of
-- the first step without a case; out of memory, by a prefix of them
abbrev pub AddsUpTo : List Sizes → AllSeen → AllSeen → PlayFault → Type 0
AddsUpTo zs old new (NotAllowed t) = Grew old new (traces_of zs)
AddsUpTo zs old new Memory = GrewPrefix old new (traces_of zs)

-- a trace before and after steps with answers of these sizes: it grew by their traces
abbrev pub AddsTraces : {T : Type 0} → List Sizes → AllSeen → AllSeen → Result T PlayFault → Type 0
AddsTraces zs old new (Ok x) = Grew old new (traces_of zs)
AddsTraces zs old new (Err fault) = AddsUpTo zs old new fault
