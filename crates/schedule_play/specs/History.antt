-- The messages of steps, and what they opened.
use Rattle.std.specs.Prelude.{ℕ, zero, suc, ◌≡◌, ◌==◌, ◌⊎◌, ◌&&◌, ◌++◌, ⊤, Bool, true, false, if◌then◌else◌, IsSomeAnd, Option, Some, None}
use Rattle.std.specs.Prelude.{List, [], ◌∷◌}
use Rattle.std.specs.List.{list_any}
use Rattle.table_schema.specs.declared.widths.Widths.{Widths}
use Rattle.server_rounds.specs.declared.opened.OpenedPair.{OpenedPair}
use Rattle.wire_line.specs.Messages.{IsHonest}
use Rattle.wire_line.specs.declared.message.Message.{Message}
use Rattle.waldo_core.specs.Answers.{Begins, Carries}
use Rattle.waldo_core.specs.declared.events.Event.{Event}
use Rattle.waldo_words.specs.declared.schedule.Step.{Step}
use Rattle.waldo_words.specs.declared.schedule.Step.TheVariants as steps
use Rattle.schedule_play.specs.Stages.{Opening, Stage, actor_in, event_of, first_stage, next_stage}
use Rattle.schedule_play.specs.Tasks.{Setting, Task}
use Rattle.schedule_play.specs.declared.style.Style.{Style}

-- a step that was done, the messages that it sent, and the pair that they opened
pub record Done : Type 0 where
  pub step : Step
  pub messages : List Message
  pub pair : OpenedPair

-- these are the messages of an event, and they open this pair
abbrev pub CarriesOf : Widths → Setting → Stage → Option Event → Done → Type 0
CarriesOf w s stage None d = ⊥
CarriesOf w s stage (Some event) d = Carries w stage.core event d.messages d.pair

abbrev pub IsCarried : Widths → Setting → Stage → Done → Type 0
IsCarried w s stage d = CarriesOf w s stage (event_of s stage d.step) d

-- a step has no case, whatever it would open
abbrev pub HasNoCase : Setting → Style → Stage → Step → Type 0
HasNoCase s style stage x = (pair : OpenedPair) → next_stage s style stage x pair ≡ None

-- all steps were done with their messages, or all before the first one without a case
abbrev pub IsHistory : Widths → Setting → Style → Stage → List Step → List Done → Type 0
IsHistory w s style stage [] [] = ⊤
IsHistory w s style stage [] (d ∷ ds) = ⊥
IsHistory w s style stage (x ∷ xs) [] = HasNoCase s style stage x
IsHistory w s style stage (x ∷ xs) (d ∷ ds) =
    (d.step ≡ x) × IsCarried w s stage d × IsSomeAnd (next_stage s style stage x d.pair) (λ (next : Stage). IsHistory w s style next xs ds)

-- the first messages of an event
abbrev pub BeginsOf : Widths → Setting → Stage → Option Event → Done → Type 0
BeginsOf w s stage None d = d.messages ≡ []
BeginsOf w s stage (Some event) d = Begins w stage.core event d.messages

abbrev pub IsBegun : Widths → Setting → Stage → Done → Type 0
IsBegun w s stage d = BeginsOf w s stage (event_of s stage d.step) d

-- some first steps were done, the last of which may have sent just the first of its messages
abbrev pub Breaks : Widths → Setting → Style → Stage → List Step → List Done → Type 0
Breaks w s style stage xs [] = ⊤
Breaks w s style stage [] (d ∷ ds) = ⊥
Breaks w s style stage (x ∷ xs) (d ∷ ds) =
    (d.step ≡ x)
    × ((IsCarried w s stage d × IsSomeAnd (next_stage s style stage x d.pair) (λ (next : Stage). Breaks w s style next xs ds))
    ⊎ (IsBegun w s stage d × (ds ≡ [])))

-- the history of a task, and that of one that was broken off
abbrev pub HasHistory : Widths → Task → List Done → Type 0
HasHistory w task history = IsHistory w task.setting task.style first_stage task.steps history

abbrev pub HasBroken : Widths → Task → List Done → Type 0
HasBroken w task history = Breaks w task.setting task.style first_stage task.steps history

-- what stands for a step that was not done
abbrev pub nothing_opened : OpenedPair
nothing_opened = record { total = 0; weighted = 0 }

-- what each step opened
abbrev pub pair_at : List Done → ℕ → OpenedPair
pair_at [] t = nothing_opened
pair_at (d ∷ ds) zero = d.pair
pair_at (d ∷ ds) (suc t) = pair_at ds t

-- what messages each step sent
abbrev pub messages_at : List Done → ℕ → List Message
messages_at [] t = []
messages_at (d ∷ ds) zero = d.messages
messages_at (d ∷ ds) (suc t) = messages_at ds t

abbrev pub opened_in : List Done → Opening
opened_in history = λ t stage x. pair_at history t

-- the messages that an actor's answers sent, in order
abbrev pub sent_by : ℕ → List Done → List Message
sent_by actor [] = []
sent_by actor (d ∷ ds) = if actor_in d.step == actor then d.messages ++ sent_by actor ds else sent_by actor ds

-- over unaltered wires each message was received as it was sent
abbrev pub AreHonest : (ℕ → Type 0) → List Done → Type 0
AreHonest unaltered [] = ⊤
AreHonest unaltered (d ∷ ds) = (unaltered (actor_in d.step) → IsHonest d.messages) × AreHonest unaltered ds

-- a step that asks
abbrev pub is_answer : Step → Bool
is_answer (steps.Draw actor) = false
is_answer (steps.Place actor server) = false
is_answer (steps.Look actor server) = false
is_answer (steps.Fix actor) = false
is_answer (steps.Answer actor query) = true

-- an actor has an answer
abbrev pub has_answer : ℕ → List Done → Bool
has_answer actor history = list_any (λ (d : Done). is_answer d.step && (actor_in d.step == actor)) history
