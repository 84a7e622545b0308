use Rattle.std.proofs.Common.{rules, ◌≡◌, inl, inr}
use Rattle.std.specs.Prelude.{Ok}
use Rattle.std.proofs.lemmas.Result.{IfOk-weaker}
use Rattle.waldo_run.specs.Tasks.{common_in, rows_in}
use Rattle.waldo_run.proofs.Begun.{fault_answers, rows_answers}
use Rattle.waldo_run.proofs.Growing.{fault_sees, rows_see}
use Rattle.waldo_run.specs.Tampered.{shifts_of}
use Rattle.waldo_run.proofs.Tampering.{still_carried}
use Rattle.waldo_run.proofs.still.answer_bytes.Goals as goal

pub returns-in-Err-clause-answers : goal.returns-in-Err-clause-answers
returns-in-Err-clause-answers g c =
    let command = c.args.command.now in
    fault_answers command c.widths-widths.result (search rules) c.in-Err.fault (rows_in (common_in command) c.args.bytes.items) _ _
    (still_carried g.W.Wire.sight g.met.W.Wire.none_passes (shifts_of (Ok c.args.command.now)) c.args.wires.now.items)
    (λ some. elim c.in-Err.ensures.exact [ inl memory ↦ absurd (some memory) | inr read ↦ search rules ])
    c.refused_rows.result c.refused_rows.ensures

pub returns-in-Ok-clause-answers : goal.returns-in-Ok-clause-answers
returns-in-Ok-clause-answers g c =
    let command = c.args.command.now in
    let h = rw c.deref-in-Ok.ensures.value at c.answer_rows.ensures.asked in
    let is : rows_in (common_in command) c.args.bytes.items ≡ Ok c.in-Ok.rows.items = search rules in
    rows_answers command c.in-Ok.rows.items (rows_in (common_in command) c.args.bytes.items) _ _ h.0 is h.1 c.answer_rows.result h.2 h.3

pub returns-in-Err-clause-trace : goal.returns-in-Err-clause-trace
returns-in-Err-clause-trace g c =
    let command = c.args.command.now in
    fault_sees command c.widths-widths.result (search rules) c.in-Err.fault (rows_in (common_in command) c.args.bytes.items) c.args.trace.now
    (λ some. elim c.in-Err.ensures.exact [ inl memory ↦ absurd (some memory) | inr read ↦ search rules ])
    c.refused_rows.result (IfOk-weaker c.refused_rows.result _ _ (λ reply e. e.1) c.refused_rows.ensures)

pub returns-in-Ok-clause-trace : goal.returns-in-Ok-clause-trace
returns-in-Ok-clause-trace g c =
    let command = c.args.command.now in
    let h = rw c.deref-in-Ok.ensures.value at c.answer_rows.ensures.trace in
    let is : rows_in (common_in command) c.args.bytes.items ≡ Ok c.in-Ok.rows.items = search rules in
    rows_see command c.widths-widths.result (search rules) c.in-Ok.rows.items (rows_in (common_in command) c.args.bytes.items) is
    c.args.trace.now c.answer_rows.new.trace c.answer_rows.result h
