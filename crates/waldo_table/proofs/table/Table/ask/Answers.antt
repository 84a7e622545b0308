use Rattle.std.proofs.Common.{◌≡◌, refl, subst, [], rules}
use Rattle.agreed_rows.specs.Agreed.{Entries}
use Rattle.agreed_rows.specs.Answers.{plain_total, sizes_over}
use Rattle.visit_trace.specs.Expected.{trace_of}
use Rattle.visit_trace.specs.Seen.{Grew, GrewPrefix}
use Rattle.wire_line.specs.Carried.{went_none}
use Rattle.server_rounds.specs.declared.opened.OpenedPair.{OpenedPair}
use Rattle.waldo_table.proofs.Asking.{agreed_are, asked_answer, asked_fault, never_fault, plain_fault, trace_fault}
use Rattle.waldo_table.proofs.table.Table.ask.Goals as goal

nothing : OpenedPair
nothing = record { total = 0; weighted = 0 }

pub returns-in-Err-clause-asked : goal.returns-in-Err-clause-asked
returns-in-Err-clause-asked g c =
    ([], nothing, went_none g.W.Wire.sight _ _ refl refl (g.met.W.Wire.none_passes _), rw c.asked.ensures (asked_fault _ _ _ _ _ nothing c.in-Err.fault c.in-Err.ensures.again c.in-Err.ensures.floor), λ honest. rw c.asked.ensures (plain_fault c.args.self.now.widths c.agree.new.pass c.args.query.now c.in-Err.fault))

pub returns-in-Err-clause-plain : goal.returns-in-Err-clause-plain
returns-in-Err-clause-plain g c still = rw c.asked.ensures (plain_fault c.args.self.now.widths c.agree.new.pass c.args.query.now c.in-Err.fault)

pub returns-in-Err-clause-never : goal.returns-in-Err-clause-never
returns-in-Err-clause-never g c covered = rw c.asked.ensures (never_fault c.in-Err.fault (c.in-Err.ensures.never covered))

pub returns-in-Err-clause-trace : goal.returns-in-Err-clause-trace
returns-in-Err-clause-trace g c = rw c.asked.ensures (trace_fault c.args.self.now.widths c.agree.new.pass c.args.query.now _ c.in-Err.fault)

pub returns-in-Ok-answer-clause-asked : goal.returns-in-Ok-answer-clause-asked
returns-in-Ok-answer-clause-asked g c =
    let h = c.in-Ok-answer.ensures.answers in
    let agrees = c.in-Ok.ensures.agrees in (
      h.0,
      h.1,
      h.2,
      asked_answer _ _ _ _ c.args.query.now c.args.seed.now h.0 h.1 _ agrees h.3,
      λ honest. subst (λ (v : Entries). c.in-Ok-answer.answered.total ≡ plain_total v c.args.query.now) (agreed_are _ _ _ _ agrees) (h.4 honest),
    )

pub returns-in-Ok-answer-clause-trace : goal.returns-in-Ok-answer-clause-trace
returns-in-Ok-answer-clause-trace g c =
    subst (λ (v : Entries). Grew c.args.trace.now c.answer.new.trace (trace_of (sizes_over v c.args.query.now)))
    (agreed_are _ _ _ _ c.in-Ok.ensures.agrees) c.in-Ok-answer.ensures.trace

pub returns-in-Err-Altered-clause-trace : goal.returns-in-Err-Altered-clause-trace
returns-in-Err-Altered-clause-trace g c =
    subst (λ (v : Entries). Grew c.args.trace.now c.answer.new.trace (trace_of (sizes_over v c.args.query.now)))
    (agreed_are _ _ _ _ c.in-Ok.ensures.agrees) (rw c.in-Err-Altered.field-0-is at c.in-Err-Altered.ensures.trace)

pub returns-in-Err-Altered-clause-asked : goal.returns-in-Err-Altered-clause-asked
returns-in-Err-Altered-clause-asked g c = let h = c.in-Err-Altered.ensures.answers in (h.0, h.1, h.2, search rules, λ honest. rw c.in-Err-Altered.field-0-is at (h.4 honest))

pub returns-clause-asked : goal.returns-clause-asked
returns-clause-asked g c = let h = c.in-Err-Memory.ensures.answers in (h.0, h.1, h.2, search rules, λ honest. tt)

pub returns-clause-trace : goal.returns-clause-trace
returns-clause-trace g c =
    subst (λ (v : Entries). GrewPrefix c.args.trace.now c.answer.new.trace (trace_of (sizes_over v c.args.query.now)))
    (agreed_are _ _ _ _ c.in-Ok.ensures.agrees) (rw c.in-Err-Memory.field-0-is at c.in-Err-Memory.ensures.trace)
