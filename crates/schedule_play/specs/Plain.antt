-- What steps come to where nothing is altered.
use Rattle.std.specs.Prelude.{ℕ, ◌+◌, ⊤, IfSome, Option, Some, None, List, [], ◌∷◌, length, slice_get}
use Rattle.server_rounds.specs.declared.opened.OpenedPair.{OpenedPair}
use Rattle.prg_chacha.specs.declared.seed.Seed.{Seed}
use Rattle.query_plan.specs.declared.query.Query.{Query}
use Rattle.report_lines.specs.declared.lines.Line.{Line}
use Rattle.report_lines.specs.declared.lines.Line.TheVariants as lines
use Rattle.report_lines.specs.declared.lines.Who.TheVariants.{Single}
use Rattle.table_schema.specs.declared.rows.Row.{Row}
use Rattle.transcript.specs.Plain.{plain}
use Rattle.wire_line.specs.Messages.{IsHonest}
use Rattle.waldo_core.specs.Answers.{IsPlain, plain_pair, rows_agreed}
use Rattle.waldo_core.specs.declared.events.Event.{Event}
use Rattle.waldo_core.specs.declared.events.Event.TheVariants as events
use Rattle.waldo_core.specs.Core.{Core}
use Rattle.schedule_play.specs.History.{Done, nothing_opened}
use Rattle.schedule_play.specs.Stages.{Opening, Stage, event_of, next_stage}
use Rattle.schedule_play.specs.Tasks.{Setting}
use Rattle.schedule_play.specs.declared.style.Style.{Style}

-- the plain answer over the rows that were agreed on, and the key times it
abbrev pub plain_over : Core → Query → Seed → Option ℕ → OpenedPair
plain_over core query seed None = nothing_opened
plain_over core query seed (Some n) = plain_pair core.order n query seed

abbrev pub plain_of : Core → Option Event → OpenedPair
plain_of core None = nothing_opened
plain_of core (Some (events.Draw number row seed)) = nothing_opened
plain_of core (Some (events.Place number k)) = nothing_opened
plain_of core (Some (events.Look number k)) = nothing_opened
plain_of core (Some (events.Fix number)) = nothing_opened
plain_of core (Some (events.Answer number query seed)) = plain_over core query seed (rows_agreed (slice_get core.actors number))

-- each answer opens the plain one
abbrev pub plainly : Setting → Opening
plainly s = λ t stage x. plain_of stage.core (event_of s stage x)

-- where the messages of an answer were received as they were sent, what it opened is plain, whatever was altered before
abbrev pub IsPlainOf : Stage → Option Event → OpenedPair → Type 0
IsPlainOf stage None pair = ⊤
IsPlainOf stage (Some event) pair = IsPlain stage.core event pair

abbrev pub ArePlain : Setting → Style → Stage → List Done → Type 0
ArePlain s style stage [] = ⊤
ArePlain s style stage (d ∷ ds) =
    (IsHonest d.messages → IsPlainOf stage (event_of s stage d.step) d.pair)
    × IfSome (next_stage s style stage d.step d.pair) (λ (next : Stage). ArePlain s style next ds)

-- the lines of queries, the first of which has this number, each asked plainly over all rows
abbrev pub plain_lines : List Row → ℕ → List Query → List Line
plain_lines rows i [] = []
plain_lines rows i (q ∷ qs) = lines.Answer (Single i) (length rows) q.aggregate (plain q rows) ∷ plain_lines rows (i + 1) qs
