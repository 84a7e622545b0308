-- The outcome of an event before a refusal is named, of a query, and of an event without messages.
use Rattle.std.specs.Prelude.{ℕ, Option, Some, None, Result, Ok, Err, []}
use Rattle.ring128.specs.declared.memory.Memory.{Memory}
use Rattle.server_rounds.specs.declared.opened.OpenedPair.{OpenedPair}
use Rattle.agreed_rows.specs.declared.query.AnswerFault.{AnswerFault}
use Rattle.agreed_rows.specs.declared.query.AnswerFault.TheVariants as faults
use Rattle.agreed_rows.specs.declared.query.Answered.{Answered}
use Rattle.waldo_core.specs.Machines.{Seen, Stepped}
use Rattle.waldo_core.specs.declared.events.Event.{Event}
use Rattle.waldo_core.specs.declared.events.Reply.{Reply}
use Rattle.waldo_core.specs.declared.events.Reply.TheVariants as replies
use Rattle.waldo_core.specs.declared.events.StepFault.{StepFault}
use Rattle.waldo_core.specs.declared.events.StepFault.TheVariants as step_faults

-- an event without a reply is not allowed
abbrev pub named : Event → Result (Option Reply) Memory → Result Reply StepFault
named event (Ok (Some reply)) = Ok reply
named event (Ok None) = Err (step_faults.NotAllowed event)
named event (Err memory) = Err step_faults.Memory

-- a query over n rows, as it was answered
abbrev pub replied : ℕ → Result Answered AnswerFault → Result (Option Reply) Memory
replied n (Ok a) = Ok (Some (replies.Answered a.rows a.total))
replied n (Err (faults.Altered total weighted)) = Ok (Some (replies.Altered n total weighted))
replied n (Err faults.Memory) = Err (record {})

-- an event that carried nothing was done, or refused
abbrev pub Quietly : Seen → Event → Seen → Result (Option Reply) Memory → Type 0
Quietly old event new result = (pair : OpenedPair) → Stepped old event [] pair new (named event result)
