-- What contracts see of a machine, and what a step does to it.
use Rattle.std.specs.Prelude.{◌≡◌, ℕ, ⊤, ◌⊎◌, Some, None, Result, Ok, Err, List, []}
use Rattle.table_schema.specs.Widths.{Fits, Holds, cells_of, column_bits}
use Rattle.table_schema.specs.declared.widths.Widths.{Widths}
use Rattle.prefix_log.specs.declared.fault.OpenFault.{OpenFault}
use Rattle.prefix_log.specs.declared.fault.OpenFault.TheVariants as open_faults
use Rattle.server_rounds.specs.declared.opened.OpenedPair.{OpenedPair}
use Rattle.wire_line.specs.declared.message.Message.{Message}
use Rattle.waldo_core.specs.Answers.{Begins, Carries}
use Rattle.waldo_core.specs.Core.{Core, empty_core}
use Rattle.waldo_core.specs.Step.{Suited, step}
use Rattle.waldo_core.specs.declared.events.Event.{Event}
use Rattle.waldo_core.specs.declared.events.Event.TheVariants as events
use Rattle.waldo_core.specs.declared.events.Reply.{Reply}
use Rattle.waldo_core.specs.declared.events.StepFault.{StepFault}
use Rattle.waldo_core.specs.declared.events.StepFault.TheVariants as step_faults

-- the widths of its rows, how many it takes, and the core
pub record Seen : Type 0 where
  pub widths : Widths
  pub capacity : ℕ
  pub core : Core

-- a machine in which nothing was drawn
abbrev pub new_machine : Widths → ℕ → Seen
new_machine w capacity = record { widths = w; capacity = capacity; core = empty_core }

-- when no machine is made: it would have this many cells, which is too many or none; out of memory may come at any time
abbrev pub HasOpenFault : Widths → ℕ → OpenFault → Type 0
HasOpenFault w capacity (open_faults.Cells had) = (¬ Fits (column_bits w) capacity) × (had ≡ cells_of (column_bits w) capacity)
HasOpenFault w capacity open_faults.Memory = ⊤

-- a drawn row is of these widths
abbrev pub IsHeld : Widths → Event → Type 0
IsHeld w (events.Draw number row seed) = Holds w row
IsHeld w (events.Place number k) = ⊤
IsHeld w (events.Look number k) = ⊤
IsHeld w (events.Fix number) = ⊤
IsHeld w (events.Answer number query seed) = ⊤

-- the event has no case, whatever is opened
abbrev pub HasNoCase : Seen → Event → Type 0
HasNoCase m event = (¬ Suited m.widths event) ⊎ ((pair : OpenedPair) → step m.capacity m.core event pair ≡ None)

-- An event that was done: its query is legal, its messages were carried, and core and reply are those of the step with the pair that
-- they opened. An event that is not allowed has no case. Then, and out of memory, the machine is as before.
abbrev pub Stepped : Seen → Event → List Message → OpenedPair → Seen → Result Reply StepFault → Type 0
Stepped old event ms pair new (Ok reply) =
    Suited old.widths event × Carries old.widths old.core event ms pair
    × (step old.capacity old.core event pair ≡ Some (new.core, reply)) × (new ≡ record old { core = new.core })
Stepped old event ms pair new (Err (step_faults.NotAllowed given)) = (given ≡ event) × (ms ≡ []) × HasNoCase old event × (new ≡ old)
Stepped old event ms pair new (Err step_faults.Memory) = Begins old.widths old.core event ms × (new ≡ old)
