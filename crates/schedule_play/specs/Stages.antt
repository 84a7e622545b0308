-- What steps come to, one after another.
use Rattle.std.specs.Prelude.{ℕ, ◌+◌, ◌<◌, ◌||◌, All, Bool, true, false, if◌then◌else◌, Option, Some, None, option_map, Result, Ok, Err}
use Rattle.std.specs.Prelude.{List, [], ◌∷◌, ◌++◌, length, slice_get, slice_set, slice_index_or}
use Rattle.list_facts.specs.Listed.{listed}
use Rattle.prg_chacha.specs.Prg.{derive_of}
use Rattle.query_plan.specs.declared.query.Query.{Query}
use Rattle.report_lines.specs.declared.lines.Line.{Line}
use Rattle.report_lines.specs.declared.lines.Line.TheVariants as lines
use Rattle.report_lines.specs.declared.lines.Who.{Who}
use Rattle.report_lines.specs.declared.lines.Who.TheVariants.{Single, Round}
use Rattle.server_rounds.specs.declared.opened.OpenedPair.{OpenedPair}
use Rattle.table_schema.specs.declared.rows.Row.{Row}
use Rattle.table_schema.specs.declared.shapes.Aggregate.{Aggregate}
use Rattle.table_schema.specs.declared.shapes.Aggregate.TheVariants.{Count}
use Rattle.waldo_core.specs.Core.{Core, empty_core}
use Rattle.waldo_core.specs.Step.{is_altered, step}
use Rattle.waldo_core.specs.declared.events.Event.{Event}
use Rattle.waldo_core.specs.declared.events.Event.TheVariants as events
use Rattle.waldo_core.specs.declared.events.Reply.{Reply}
use Rattle.waldo_core.specs.declared.events.Reply.TheVariants as replies
use Rattle.waldo_words.specs.declared.schedule.Step.{Step}
use Rattle.waldo_words.specs.declared.schedule.Step.TheVariants as steps
use Rattle.schedule_play.specs.Tasks.{Setting, Task, room_of}
use Rattle.schedule_play.specs.declared.style.Style.{Style}
use Rattle.schedule_play.specs.declared.style.Style.TheVariants.{Queries, Rounds}

-- the core; by actor, how many `ask` lines it has; the lines so far; and whether a check refused a pair
pub record Stage : Type 0 where
  pub core : Core
  pub rounds : List ℕ
  pub lines : List Line
  pub altered : Bool

abbrev pub first_stage : Stage
first_stage = record { core = empty_core; rounds = listed 16 (λ (actor : ℕ). 0); lines = []; altered = false }

-- how many `ask` lines an actor has
abbrev pub round_of : Stage → ℕ → ℕ
round_of stage actor = slice_index_or stage.rounds actor 0

-- the event of a step: a draw takes the next row, and an answer the query of its number; without one there is no event. The seed of
-- row i that actor a draws is the master seed's for 1, a and i; that of the answer in line r of actor a is the one for 2, a and r
abbrev pub event_of : Setting → Stage → Step → Option Event
event_of s stage (steps.Draw actor) =
    let i = length stage.core.order in
    option_map (λ (row : Row). events.Draw actor row (derive_of s.master 1 actor i)) (slice_get s.rows i)
event_of s stage (steps.Place actor server) = Some (events.Place actor server)
event_of s stage (steps.Look actor server) = Some (events.Look actor server)
event_of s stage (steps.Fix actor) = Some (events.Fix actor)
event_of s stage (steps.Answer actor query) =
    option_map (λ (q : Query). events.Answer actor q (derive_of s.master 2 actor (round_of stage actor))) (slice_get s.queries query)

abbrev pub actor_in : Step → ℕ
actor_in (steps.Draw actor) = actor
actor_in (steps.Place actor server) = actor
actor_in (steps.Look actor server) = actor
actor_in (steps.Fix actor) = actor
actor_in (steps.Answer actor query) = actor

-- each actor of these steps that there is has one of this many wires
abbrev pub HaveWires : ℕ → List Step → Type 0
HaveWires wires xs = All (λ (x : Step). actor_in x < 16 → actor_in x < wires) xs

-- the server that a look goes to
abbrev pub server_in : Step → ℕ
server_in (steps.Draw actor) = 0
server_in (steps.Place actor server) = server
server_in (steps.Look actor server) = server
server_in (steps.Fix actor) = 0
server_in (steps.Answer actor query) = 0

-- what an answer's query asks for
abbrev pub aggregate_of : Option Query → Aggregate
aggregate_of None = Count
aggregate_of (Some query) = query.aggregate

abbrev pub aggregate_in : Setting → Step → Aggregate
aggregate_in s (steps.Draw actor) = Count
aggregate_in s (steps.Place actor server) = Count
aggregate_in s (steps.Look actor server) = Count
aggregate_in s (steps.Fix actor) = Count
aggregate_in s (steps.Answer actor query) = aggregate_of (slice_get s.queries query)

-- whose answer a line gives: where queries are asked once each, the query's; else the actor's round
abbrev pub who_of : Style → ℕ → ℕ → Who
who_of Queries actor round = Single round
who_of Rounds actor round = Round actor round

-- a line that is left out where queries are asked once each
abbrev pub in_rounds : Style → Line → List Line
in_rounds Queries line = []
in_rounds Rounds line = line ∷ []

-- the line of a reply, if it has one
abbrev pub lines_of : Setting → Style → Step → ℕ → Reply → List Line
lines_of s style x round (replies.Drew place) = in_rounds style (lines.Draw (actor_in x) place)
lines_of s style x round (replies.Full capacity) = []
lines_of s style x round replies.Placed = []
lines_of s style x round (replies.Looked prefix) = in_rounds style (lines.Look (actor_in x) (server_in x) prefix)
lines_of s style x round (replies.Fixed prefix) = []
lines_of s style x round (replies.Agreed rows) = []
lines_of s style x round (replies.Again server had floor) = lines.Again (who_of style (actor_in x) round) server had floor ∷ []
lines_of s style x round (replies.Answered rows total) = lines.Answer (who_of style (actor_in x) round) rows (aggregate_in s x) total ∷ []
lines_of s style x round (replies.Altered rows total weighted) = lines.Altered (who_of style (actor_in x) round) rows total weighted ∷ []

-- the replies with an `ask` line
abbrev pub is_asked : Reply → Bool
is_asked (replies.Drew place) = false
is_asked (replies.Full capacity) = false
is_asked replies.Placed = false
is_asked (replies.Looked prefix) = false
is_asked (replies.Fixed prefix) = false
is_asked (replies.Agreed rows) = false
is_asked (replies.Again server had floor) = true
is_asked (replies.Answered rows total) = true
is_asked (replies.Altered rows total weighted) = true

-- the stage after a step whose event gave this core and this reply
abbrev pub with_reply : Setting → Style → Stage → Step → Core × Reply → Stage
with_reply s style stage x done =
    let actor = actor_in x in
    let round = round_of stage actor in
    record {
      core = done.0;
      rounds = if is_asked done.1 then slice_set stage.rounds actor (round + 1) else stage.rounds;
      lines = stage.lines ++ lines_of s style x round done.1;
      altered = stage.altered || is_altered done.1;
    }

-- the step of the core that an event is, with the pair that its query opened
abbrev pub step_of : Setting → Stage → Option Event → OpenedPair → Option (Core × Reply)
step_of s stage None pair = None
step_of s stage (Some event) pair = step (room_of s) stage.core event pair

-- the stage after a step, where it has a case
abbrev pub next_stage : Setting → Style → Stage → Step → OpenedPair → Option Stage
next_stage s style stage x pair = option_map (with_reply s style stage x) (step_of s stage (event_of s stage x) pair)

-- what the step of this number opens at a stage
abbrev pub Opening : Type 0
Opening = ℕ → Stage → Step → OpenedPair

-- what comes after a step of this number, where it has a case
abbrev pub go_on : (Stage → Result Stage ℕ) → ℕ → Option Stage → Result Stage ℕ
go_on rest t None = Err t
go_on rest t (Some stage) = rest stage

-- The last stage of some steps, the first of which has this number; or the number of the first step without a case.
abbrev pub played_on : Setting → Style → Opening → ℕ → Stage → List Step → Result Stage ℕ
played_on s style opens t stage [] = Ok stage
played_on s style opens t stage (x ∷ xs)
    = go_on (λ (next : Stage). played_on s style opens (t + 1) next xs) t (next_stage s style stage x (opens t stage x))

-- the same of all steps of a task
abbrev pub played : Opening → Task → Result Stage ℕ
played opens task = played_on task.setting task.style opens 0 first_stage task.steps
