-- What an ask says, by what agreeing and answering said.
use Rattle.std.proofs.Common.{◌≡◌, ◌∙◌, refl, sym, ap, subst, ℕ, List, [], take, inl}
use Rattle.std.specs.Prelude.{Ok, Err}
use Rattle.prg_chacha.specs.declared.seed.Seed.{Seed}
use Rattle.query_plan.specs.declared.query.Query.{Query}
use Rattle.server_rounds.specs.declared.opened.OpenedPair.{OpenedPair}
use Rattle.table_schema.specs.declared.widths.Widths.{Widths}
use Rattle.agreed_rows.specs.Agreed.{Entries}
use Rattle.agreed_rows.specs.Answers.{Answers, Opens}
use Rattle.agreed_rows.specs.declared.query.Answered.{Answered}
use Rattle.wire_line.specs.declared.message.Message.{Message}
use Rattle.visit_trace.specs.Growing.{prefix_none}
use Rattle.visit_trace.specs.Seen.{AllSeen}
use Rattle.waldo_table.specs.Asks.{Asked, AsksTrace, IsNeverAgain, IsPlainAsk, rows_of}
use Rattle.waldo_table.specs.Faults.{as_asked}
use Rattle.waldo_table.specs.Tables.{Agrees, IsAgreeFault, IsMemory, PassView}
use Rattle.waldo_table.specs.declared.faults.AgreeFault.{AgreeFault}
use Rattle.waldo_table.specs.declared.faults.AgreeFault.TheVariants as agree

pub asked_fault : (w : Widths) (p q : PassView) (query : Query) (seed : Seed) (pair : OpenedPair) (fault : AgreeFault) → IsAgreeFault p q fault → q.floor ≡ p.floor → Asked w p q query seed [] pair (Err (as_asked fault))
asked_fault w p q query seed pair (agree.Again k had least) lacks floor = (refl, floor, lacks)
asked_fault w p q query seed pair agree.Memory lacks floor = inl (refl, floor)

pub plain_fault : (w : Widths) (q : PassView) (query : Query) (fault : AgreeFault) → IsPlainAsk w q query (Err (as_asked fault))
plain_fault w q query (agree.Again k had least) = tt
plain_fault w q query agree.Memory = tt

pub never_fault : (fault : AgreeFault) → IsMemory fault → IsNeverAgain (Err (as_asked fault))
never_fault (agree.Again k had least) m = absurd m
never_fault agree.Memory m = tt

pub trace_fault : (w : Widths) (q : PassView) (query : Query) (t : AllSeen) (fault : AgreeFault) → AsksTrace w q query t t (Err (as_asked fault))
trace_fault w q query t (agree.Again k had least) = refl
trace_fault w q query t agree.Memory = prefix_none t _

-- what was agreed on are the rows of the new floor
pub agreed_are : (w : Widths) (p q : PassView) (e : Entries) → Agrees w p q e → e ≡ rows_of w q
agreed_are w p q e a = a.entries ∙ ap (λ (n : ℕ). record { widths = w; all = take n q.sight.order }) (sym a.floor)

-- an answer over them
pub asked_answer : (w : Widths) (p q : PassView) (e : Entries) (query : Query) (seed : Seed) (ms : List Message) (pair : OpenedPair) (a : Answered) → Agrees w p q e
    → Answers e query seed ms pair (Ok a) → Asked w p q query seed ms pair (Ok a)
asked_answer w p q e query seed ms pair a agrees answers =
    let are = agreed_are w p q e agrees in (
      subst (λ (v : Entries). Agrees w p q v) are agrees,
      subst (λ (v : Entries). Opens v query seed ms pair) are answers.0,
      answers.1,
      answers.2 ∙ sym agrees.floor,
    )
