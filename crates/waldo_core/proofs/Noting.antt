-- What an event adds to a trace.
use Rattle.std.proofs.Common.{◌≡◌, ◌∙◌, refl, sym, ap, subst, ℕ, Option, Some, None, slice_get, length}
use Rattle.std.specs.Prelude.{Result, Ok, Err}
use Rattle.prg_chacha.specs.declared.seed.Seed.{Seed}
use Rattle.query_plan.specs.Query.{shaped}
use Rattle.query_plan.specs.declared.query.Query.{Query}
use Rattle.ring128.specs.declared.memory.Memory.{Memory}
use Rattle.table_schema.specs.declared.widths.Widths.{Widths}
use Rattle.visit_trace.specs.Expected.{trace_of}
use Rattle.visit_trace.specs.Growing.{grew_nothing, prefix_none}
use Rattle.visit_trace.specs.Seen.{AllSeen, Grew, GrewPrefix, alike, nothing}
use Rattle.agreed_rows.specs.Agreed.{Entries}
use Rattle.agreed_rows.specs.Answers.{AddsTrace, sizes_over}
use Rattle.agreed_rows.specs.declared.query.AnswerFault.{AnswerFault}
use Rattle.agreed_rows.specs.declared.query.AnswerFault.TheVariants as faults
use Rattle.agreed_rows.specs.declared.query.Answered.{Answered}
use Rattle.waldo_core.specs.Answers.{IsQuiet, rows_agreed}
use Rattle.waldo_core.specs.Core.{Core}
use Rattle.waldo_core.specs.Held.{IsAgreedBy}
use Rattle.waldo_core.specs.Machines.{Seen}
use Rattle.waldo_core.specs.Outcomes.{named, replied}
use Rattle.waldo_core.specs.Traces.{AddsSeen, seen_of, seen_over}
use Rattle.waldo_core.specs.declared.events.Event.{Event}
use Rattle.waldo_core.specs.declared.events.Event.TheVariants as events
use Rattle.waldo_core.specs.declared.events.Reply.{Reply}

quiet_seen : (w : Widths) (core : Core) (event : Event) → IsQuiet event → seen_of w core event ≡ alike nothing
quiet_seen w core (events.Draw number row seed) quiet = refl
quiet_seen w core (events.Place number k) quiet = refl
quiet_seen w core (events.Look number k) quiet = refl
quiet_seen w core (events.Fix number) quiet = refl
quiet_seen w core (events.Answer number query seed) quiet = absurd quiet

adds_nothing : (w : Widths) (core : Core) (event : Event) (t : AllSeen) (r : Result (Option Reply) Memory) → seen_of w core event ≡ alike nothing → AddsSeen w core event t t (named event r)
adds_nothing w core event t (Ok (Some reply)) e = subst (Grew t t) (sym e) (grew_nothing t)
adds_nothing w core event t (Ok None) e = refl
adds_nothing w core event t (Err memory) e = prefix_none t (seen_of w core event)

-- an event without messages, by what was given
pub quiet_adds : (w : Widths) (core : Core) (given event : Event) (t : AllSeen) (r : Result (Option Reply) Memory) → given ≡ event → IsQuiet event
    → AddsSeen w core given t t (named given r)
quiet_adds w core given event t r same quiet =
    adds_nothing w core given t r (quiet_seen w core given (subst IsQuiet (sym same) quiet))

-- an answer
pub answer_adds : (m : Seen) (number : ℕ) (query : Query) (seed : Seed) (e : Entries) → IsAgreedBy m number e → (n : ℕ) (r : Result Answered AnswerFault) (old new : AllSeen)
    → AddsTrace e query old new r → let event = events.Answer number query seed in AddsSeen m.widths m.core event old new (named event (replied n r))
answer_adds m number query seed e agreed n r old new = by r
  where
    same : trace_of (sizes_over e query) ≡ seen_of m.widths m.core (events.Answer number query seed)
    same =
        ap (λ (w : Widths). trace_of (record { rows = length e.all; widths = w; shape = shaped query })) (ap (λ (x : Entries). x.widths) agreed.first)
        ∙ sym (ap (λ (o : Option ℕ). seen_over m.widths o query) agreed.agreed)

    by : (r : Result Answered AnswerFault) → AddsTrace e query old new r → AddsSeen m.widths m.core (events.Answer number query seed) old new (named (events.Answer number query seed) (replied n r))
    by (Ok a) g = subst (Grew old new) same g
    by (Err (faults.Altered total weighted)) g = subst (Grew old new) same g
    by (Err faults.Memory) g = subst (GrewPrefix old new) same g
