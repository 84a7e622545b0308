use Rattle.std.proofs.Common.{rules, sym, ap, subst, ◌∙◌, ◌≡◌, ℕ, List, length, arith}
use Rattle.std.specs.Prelude.{Ok}
use Rattle.list_facts.proofs.Listed.{length-listed}
use Rattle.table_schema.specs.Widths.{column_bits}
use Rattle.waldo_words.specs.Legal.{IsLegal}
use Rattle.waldo_words.specs.declared.command.Command.TheVariants as commands
use Rattle.waldo_run.specs.Made.{made_row, made_rows}
use Rattle.waldo_run.specs.Tasks.{bits_of, common_in, rows_made}
use Rattle.waldo_run.proofs.Begun.{none_answers, rows_answers}
use Rattle.waldo_run.proofs.Growing.{none_sees, rows_see}
use Rattle.waldo_run.specs.Tampered.{shifts_of}
use Rattle.waldo_run.proofs.Tampering.{still_carried}
use Rattle.waldo_run.proofs.still.answer_made.Goals as goal

pub returns-in_err-rows-clause-answers : goal.returns-in_err-rows-clause-answers
returns-in_err-rows-clause-answers g c =
    none_answers c.args.command.now c.widths-widths.result (search rules) (Ok (rows_made c.args.command.now)) _ _
    (still_carried g.W.Wire.sight g.met.W.Wire.none_passes (shifts_of (Ok c.args.command.now)) c.args.wires.now.items) c.from_residual.result (search rules)

pub answer_rows-requires-clause-few : goal.answer_rows-requires-clause-few
answer_rows-requires-clause-few g c =
    let command = c.args.command.now in
    let legal : IsLegal (commands.Make (common_in command) c.args.number c.args.count) = subst IsLegal c.requires.made c.requires.legal in
    let made = made_row (column_bits c.widths-widths.result) c.args.number in
    let long : length (made_rows (column_bits c.widths-widths.result) c.args.number c.args.count) ≡ c.args.count = length-listed c.args.count made in
    rw c.deref.ensures.value (omega (arith, ap length c.in_ok-rows.ensures.rows ∙ long, legal.capacity))

pub returns-clause-answers : goal.returns-clause-answers
returns-clause-answers g c =
    let command = c.args.command.now in
    let h = rw c.deref.ensures.value at c.answer_rows.ensures.asked in
    let bits : column_bits c.widths-widths.result ≡ bits_of (common_in command) = search rules in
    let made : rows_made command ≡ made_rows (bits_of (common_in command)) c.args.number c.args.count = ap rows_made c.requires.made in
    let same : rows_made command ≡ c.in_ok-rows.rows.items = made ∙ ap (λ (b : List ℕ). made_rows b c.args.number c.args.count) (sym bits) ∙ sym c.in_ok-rows.ensures.rows in
    rows_answers command c.in_ok-rows.rows.items (Ok (rows_made command)) _ _ h.0 (ap Ok same) h.1 c.answer_rows.result h.2 h.3

pub returns-in_err-rows-clause-trace : goal.returns-in_err-rows-clause-trace
returns-in_err-rows-clause-trace g c =
    none_sees c.args.command.now c.widths-widths.result (search rules) (Ok (rows_made c.args.command.now)) c.args.trace.now c.from_residual.result (search rules)

pub returns-clause-trace : goal.returns-clause-trace
returns-clause-trace g c =
    let command = c.args.command.now in
    let h = rw c.deref.ensures.value at c.answer_rows.ensures.trace in
    let bits : column_bits c.widths-widths.result ≡ bits_of (common_in command) = search rules in
    let made : rows_made command ≡ made_rows (bits_of (common_in command)) c.args.number c.args.count = ap rows_made c.requires.made in
    let same : rows_made command ≡ c.in_ok-rows.rows.items = made ∙ ap (λ (b : List ℕ). made_rows b c.args.number c.args.count) (sym bits) ∙ sym c.in_ok-rows.ensures.rows in
    rows_see command c.widths-widths.result (search rules) c.in_ok-rows.rows.items (Ok (rows_made command)) (ap Ok same)
    c.args.trace.now c.answer_rows.new.trace c.answer_rows.result h
