-- What the servers see of an event.
use Rattle.std.specs.Prelude.{◌≡◌, ℕ, Option, Some, None, Result, Ok, Err, slice_get}
use Rattle.query_plan.specs.Query.{shaped}
use Rattle.query_plan.specs.declared.query.Query.{Query}
use Rattle.table_schema.specs.declared.widths.Widths.{Widths}
use Rattle.visit_trace.specs.Expected.{trace_of}
use Rattle.visit_trace.specs.Seen.{AllSeen, Grew, GrewPrefix, alike, nothing}
use Rattle.waldo_core.specs.Answers.{rows_agreed}
use Rattle.waldo_core.specs.Core.{Core}
use Rattle.waldo_core.specs.declared.events.Event.{Event}
use Rattle.waldo_core.specs.declared.events.Event.TheVariants as events
use Rattle.waldo_core.specs.declared.events.Reply.{Reply}
use Rattle.waldo_core.specs.declared.events.StepFault.{StepFault}
use Rattle.waldo_core.specs.declared.events.StepFault.TheVariants as step_faults

-- of a query over the rows that were agreed on, the trace of its sizes: of how many rows, over which widths, of which shape
abbrev pub seen_over : Widths → Option ℕ → Query → AllSeen
seen_over w None query = alike nothing
seen_over w (Some n) query = trace_of (record { rows = n; widths = w; shape = shaped query })

-- of an answer what they see of its query, and of any other event nothing
abbrev pub seen_of : Widths → Core → Event → AllSeen
seen_of w core (events.Draw number row seed) = alike nothing
seen_of w core (events.Place number k) = alike nothing
seen_of w core (events.Look number k) = alike nothing
seen_of w core (events.Fix number) = alike nothing
seen_of w core (events.Answer number query seed) = seen_over w (rows_agreed (slice_get core.actors number)) query

-- a trace before and after an event: one that was done adds what the servers see of it, also where the check refused the pair; one that
-- is refused adds nothing; out of memory, a prefix was added
abbrev pub AddsSeen : Widths → Core → Event → AllSeen → AllSeen → Result Reply StepFault → Type 0
AddsSeen w core event old new (Ok reply) = Grew old new (seen_of w core event)
AddsSeen w core event old new (Err (step_faults.NotAllowed given)) = new ≡ old
AddsSeen w core event old new (Err step_faults.Memory) = GrewPrefix old new (seen_of w core event)
