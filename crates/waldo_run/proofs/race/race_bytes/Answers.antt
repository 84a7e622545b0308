use Rattle.std.proofs.Common.{rules, inl, inr, refl, sym, subst, [], List, ℕ}
use Rattle.std.specs.Prelude.{IfOk, Ok, Result}
use Rattle.race_play.specs.Askers.{CarriedEach}
use Rattle.row_source.specs.declared.faults.RowFault.{RowFault}
use Rattle.table_schema.specs.declared.rows.Row.{Row}
use Rattle.wire_line.specs.declared.message.Message.{Message}
use Rattle.visit_trace.specs.Growing.{grew_nothing}
use Rattle.visit_trace.specs.Seen.{Grew}
use Rattle.waldo_run.specs.Races.{CarriedIn, RacedIn}
use Rattle.waldo_run.specs.Tasks.{rows_in}
use Rattle.waldo_run.proofs.Begun.{on_err}
use Rattle.waldo_run.proofs.Racing.{rows_refused}
use Rattle.waldo_run.proofs.race.race_bytes.Goals as goal

pub returns-in-Ok-clause-raced : goal.returns-in-Ok-clause-raced
returns-in-Ok-clause-raced g c =
    let same : Result (List Row) RowFault → Type 0 = λ r. IfOk c.race_rows.result (λ reply. (sent : List (List Message))
    × CarriedEach g.W.Wire.sight c.args.wires.now.items c.race_rows.new.wires.items sent × RacedIn c.args.common.now c.args.crew r sent (Grew c.args.trace.now c.race_rows.new.trace) reply) in
    subst (λ (bytes : List ℕ). same (rows_in c.args.common.now bytes)) c.deref.ensures.value
    (subst same (sym c.in-Ok.ensures.exact) (subst (λ (rows : List Row). same (Ok rows)) c.deref-in-Ok.ensures.value c.race_rows.ensures.raced))

pub returns-in-Ok-clause-carried : goal.returns-in-Ok-clause-carried
returns-in-Ok-clause-carried g c =
    let h = c.race_rows.ensures.carried in (
      h.0,
      h.1,
      inr (subst (λ (bytes : List ℕ). CarriedIn c.args.common.now c.args.crew (rows_in c.args.common.now bytes) h.0) c.deref.ensures.value
          (subst (λ (r : Result (List Row) RowFault). CarriedIn c.args.common.now c.args.crew r h.0) (sym c.in-Ok.ensures.exact)
          (subst (λ (rows : List Row). CarriedIn c.args.common.now c.args.crew (Ok rows) h.0) c.deref-in-Ok.ensures.value h.2))),
    )

pub returns-in-Err-clause-carried : goal.returns-in-Err-clause-carried
returns-in-Err-clause-carried g c = ([], refl, inl refl)

pub returns-in-Err-clause-raced : goal.returns-in-Err-clause-raced
returns-in-Err-clause-raced g c =
    rows_refused _ (Grew c.args.trace.now c.args.trace.now) refl (grew_nothing c.args.trace.now) c.args.common.now c.args.crew (rows_in c.args.common.now c.args.bytes.items) c.in-Err.fault
    (λ some. elim c.in-Err.ensures.exact [ inl memory ↦ absurd (some memory) | inr read ↦ search rules ])
    c.refused_rows.result c.refused_rows.ensures

pub returns-in-Err-clause-trace_first : goal.returns-in-Err-clause-trace_first
returns-in-Err-clause-trace_first g c = on_err _ _ (inl refl)
