-- The messages of an event, what they open, and when it is the plain answer.
use Rattle.std.specs.Prelude.{◌≡◌, ℕ, ⊤, Option, Some, None, List, [], take, slice_get}
use Rattle.ring128.specs.Signed.{word_of}
use Rattle.prg_chacha.specs.declared.seed.Seed.{Seed}
use Rattle.query_plan.specs.Seeds.{weights_of}
use Rattle.query_plan.specs.Views.{key_from}
use Rattle.query_plan.specs.declared.query.Query.{Query}
use Rattle.ring128.specs.Ring.{times}
use Rattle.server_rounds.specs.declared.opened.OpenedPair.{OpenedPair}
use Rattle.table_schema.specs.declared.rows.Row.{Row}
use Rattle.table_schema.specs.declared.widths.Widths.{Widths}
use Rattle.transcript.specs.Plain.{plain}
use Rattle.transcript.specs.Transcript.{IsPart}
use Rattle.wire_line.specs.declared.message.Message.{Message}
use Rattle.agreed_rows.specs.Agreed.{first_rows}
use Rattle.agreed_rows.specs.Answers.{Opens, rows_in, setup_over}
use Rattle.waldo_core.specs.Core.{Actor, Core, Fixes}
use Rattle.waldo_core.specs.Core.Fixes.{Unfixed, First, Second, Agreed}
use Rattle.waldo_core.specs.declared.events.Event.{Event}
use Rattle.waldo_core.specs.declared.events.Event.TheVariants as events

-- how many rows some fixes agreed on
abbrev pub agreed_in : Fixes → Option ℕ
agreed_in Unfixed = None
agreed_in (First p) = None
agreed_in (Second p q) = None
agreed_in (Agreed n) = Some n

-- how many rows an actor agreed on
abbrev pub rows_agreed : Option Actor → Option ℕ
rows_agreed None = None
rows_agreed (Some actor) = agreed_in actor.fixes

-- the messages of an answer over the rows that were agreed on
abbrev pub OpensOver : Widths → List (Row × Seed) → Option ℕ → Query → Seed → List Message → OpenedPair → Type 0
OpensOver w order None query seed ms pair = ⊥
OpensOver w order (Some n) query seed ms pair = Opens (first_rows w order n) query seed ms pair

-- the messages of an event: of an answer all those of its query over the rows that its actor agreed on, which open this pair; of any
-- other event none
abbrev pub Carries : Widths → Core → Event → List Message → OpenedPair → Type 0
Carries w core (events.Draw number row seed) ms pair = ms ≡ []
Carries w core (events.Place number k) ms pair = ms ≡ []
Carries w core (events.Look number k) ms pair = ms ≡ []
Carries w core (events.Fix number) ms pair = ms ≡ []
Carries w core (events.Answer number query seed) ms pair
    = OpensOver w core.order (rows_agreed (slice_get core.actors number)) query seed ms pair

-- the first messages of an answer
abbrev pub BeginsOver : Widths → List (Row × Seed) → Option ℕ → Query → Seed → List Message → Type 0
BeginsOver w order None query seed ms = ms ≡ []
BeginsOver w order (Some n) query seed ms = IsPart (setup_over (first_rows w order n) query seed) ms

-- the first messages of an event
abbrev pub Begins : Widths → Core → Event → List Message → Type 0
Begins w core (events.Draw number row seed) ms = ms ≡ []
Begins w core (events.Place number k) ms = ms ≡ []
Begins w core (events.Look number k) ms = ms ≡ []
Begins w core (events.Fix number) ms = ms ≡ []
Begins w core (events.Answer number query seed) ms = BeginsOver w core.order (rows_agreed (slice_get core.actors number)) query seed ms

-- the plain answer over the first n rows, and the key times it
abbrev pub plain_pair : List (Row × Seed) → ℕ → Query → Seed → OpenedPair
plain_pair order n query seed =
    let total = word_of (plain query (rows_in (take n order))) in
    record { total = total; weighted = times (key_from (weights_of seed 1) query.count) total }

abbrev pub IsPlainOver : List (Row × Seed) → Option ℕ → Query → Seed → OpenedPair → Type 0
IsPlainOver order None query seed pair = ⊤
IsPlainOver order (Some n) query seed pair = pair ≡ plain_pair order n query seed

-- what an answer opened is the plain answer over the rows that its actor agreed on
abbrev pub IsPlain : Core → Event → OpenedPair → Type 0
IsPlain core (events.Draw number row seed) pair = ⊤
IsPlain core (events.Place number k) pair = ⊤
IsPlain core (events.Look number k) pair = ⊤
IsPlain core (events.Fix number) pair = ⊤
IsPlain core (events.Answer number query seed) pair = IsPlainOver core.order (rows_agreed (slice_get core.actors number)) query seed pair

-- an event without messages
abbrev pub IsQuiet : Event → Type 0
IsQuiet (events.Draw number row seed) = ⊤
IsQuiet (events.Place number k) = ⊤
IsQuiet (events.Look number k) = ⊤
IsQuiet (events.Fix number) = ⊤
IsQuiet (events.Answer number query seed) = ⊥
