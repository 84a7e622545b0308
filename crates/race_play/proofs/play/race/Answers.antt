use Rattle.std.proofs.Common.{◌∙◌, ◌++◌, refl, subst, length, [], arith}
use Rattle.std.proofs.lemmas.Result.{IfOk-weaker}
use Rattle.table_schema.specs.declared.widths.Widths.{Widths}
use Rattle.wire_line.specs.Messages.{Went}
use Rattle.race_play.specs.Askers.{more_over_first}
use Rattle.race_play.specs.Begun.{Began}
use Rattle.race_play.specs.Questions.{Gave, ends_of}
use Rattle.race_play.specs.Seen.{NotesAll, NotesFirst, all_questions, all_rounds}
use Rattle.race_play.specs.Settings.{setting_of}
use Rattle.race_play.proofs.Breaking.{rounds_alone, rounds_behind, went_back}
use Rattle.race_play.proofs.Playing.{all_honest, if_both, reports_of, reports_quiet, went_lent}
use Rattle.race_play.proofs.Seeing.{first_all, first_behind, first_more, first_none, if_err, notes_then, report_grew}
use Rattle.race_play.proofs.play.race.Goals as goal

pub returns-clause-reports : goal.returns-clause-reports
returns-clause-reports g c =
    let race = c.args.race.now in
    let raced = c.in_ok-raced.ensures.raced in
    let e = c.in_ok-ends.ensures in
    IfOk-weaker c.report_of.result _ _ (λ r text. (
      more_over_first e.asked.0 raced.0,
      went_lent g.W.Wire.sight (g.met.W.Wire g.world.𝓛 g.world.𝓜 g.world.𝓡 ((λ s x. x), (λ x. x), (λ x. x), λ x. x)).both_pass raced.0 c.args.wires.now.len c.args.wires.now.items c.as_mut_slice.result.now c.race_all.new.wires e.asked.0 c.ask_ends.new.wire _
          (let n = raced.2.askers in let some = c.requires.legal.askers.0 in omega arith) c.args.wires.now.ok.0 c.as_mut_slice.ensures.value raced.1
          (subst (λ (v : g.row.W.Denot). Went g.W.Wire.sight v e.asked.0 c.ask_ends.new.wire) c.index_mut.ensures.value e.asked.1),
      reports_of (setting_of race) c.in_ok-raced.raced c.race_all.new.pass c.ask_ends.new.pass raced.0 e.asked.0 c.in_ok-ends.ends r.report raced.2 e.grows e.own c.room.ensures.sound
          (subst (λ (w : Widths). Gave w c.ask_ends.new.pass.sight.order (length race.rows.now) (ends_of race.queries.now race.master (length race.queries.now)) e.asked.0 c.in_ok-ends.ends) c.in-Ok.ensures.table.0 e.asked.2)
          text,
    )) c.report_of.ensures.text

pub returns-clause-accepted : goal.returns-clause-accepted
returns-clause-accepted g c still =
    IfOk-weaker c.report_of.result _ _
    (λ r h. h.1 ∙ reports_quiet (setting_of c.args.race.now) h.0.0 r.report c.requires.legal.askers.0 h.0.2 (all_honest g.W.Wire.sight h.0.0 _ _ h.0.1 still))
    (if_both c.report_of.result _ _ (returns-clause-reports g c) c.report_of.ensures.altered)

pub returns-in_err-raced-clause-carried : goal.returns-in_err-raced-clause-carried
returns-in_err-raced-clause-carried g c =
    let b = c.race_all.ensures.begun in (
      b.0,
      went_back g.W.Wire.sight b.0 c.args.wires.now.len c.args.wires.now.items c.as_mut_slice.result.now c.race_all.new.wires c.args.wires.now.ok.0 c.as_mut_slice.ensures.value b.1,
      rounds_alone (setting_of c.args.race.now) c.race_all.new.pass.sight.order b.0 b.2 b.3,
    )

pub returns-in_err-ends-clause-carried : goal.returns-in_err-ends-clause-carried
returns-in_err-ends-clause-carried g c =
    let race = c.args.race.now in
    let raced = c.in_ok-raced.ensures.raced in
    let e = c.ask_ends.ensures.begun in (
      more_over_first e.0 raced.0,
      went_lent g.W.Wire.sight (g.met.W.Wire g.world.𝓛 g.world.𝓜 g.world.𝓡 ((λ s x. x), (λ x. x), (λ x. x), λ x. x)).both_pass raced.0 c.args.wires.now.len c.args.wires.now.items c.as_mut_slice.result.now c.race_all.new.wires e.0 c.ask_ends.new.wire _
          (let n = raced.2.askers in let some = c.requires.legal.askers.0 in omega arith) c.args.wires.now.ok.0 c.as_mut_slice.ensures.value raced.1
          (subst (λ (v : g.row.W.Denot). Went g.W.Wire.sight v e.0 c.ask_ends.new.wire) c.index_mut.ensures.value e.1),
      rounds_behind (setting_of race) c.race_all.new.pass.sight.order c.ask_ends.new.pass.sight.order raced.0 e.0 c.in_ok-raced.raced.asks c.ask_ends.ensures.grows.order raced.2.asks
          (let n = raced.2.askers in omega arith)
          (subst (λ (w : Widths). Began w c.ask_ends.new.pass.sight.order (length race.rows.now) (ends_of race.queries.now race.master (length race.queries.now)) e.0) c.in-Ok.ensures.table.0 e.2),
    )

pub returns-clause-carried : goal.returns-clause-carried
returns-clause-carried g c =
    let race = c.args.race.now in
    let raced = c.in_ok-raced.ensures.raced in
    let e = c.ask_ends.ensures.begun in (
      more_over_first e.0 raced.0,
      went_lent g.W.Wire.sight (g.met.W.Wire g.world.𝓛 g.world.𝓜 g.world.𝓡 ((λ s x. x), (λ x. x), (λ x. x), λ x. x)).both_pass raced.0 c.args.wires.now.len c.args.wires.now.items c.as_mut_slice.result.now c.race_all.new.wires e.0 c.ask_ends.new.wire _
          (let n = raced.2.askers in let some = c.requires.legal.askers.0 in omega arith) c.args.wires.now.ok.0 c.as_mut_slice.ensures.value raced.1
          (subst (λ (v : g.row.W.Denot). Went g.W.Wire.sight v e.0 c.ask_ends.new.wire) c.index_mut.ensures.value e.1),
      rounds_behind (setting_of race) c.race_all.new.pass.sight.order c.ask_ends.new.pass.sight.order raced.0 e.0 c.in_ok-raced.raced.asks c.ask_ends.ensures.grows.order raced.2.asks
          (let n = raced.2.askers in omega arith)
          (subst (λ (w : Widths). Began w c.ask_ends.new.pass.sight.order (length race.rows.now) (ends_of race.queries.now race.master (length race.queries.now)) e.0) c.in-Ok.ensures.table.0 e.2),
    )

pub returns-in_default-clause-carried : goal.returns-in_default-clause-carried
returns-in_default-clause-carried g c = ([], refl, rounds_alone (setting_of c.args.race.now) [] [] tt (omega arith))

pub returns-clause-trace : goal.returns-clause-trace
returns-clause-trace g c =
    let race = c.args.race.now in
    let rounds = all_rounds (setting_of race) in
    let last = ends_of race.queries.now race.master (length race.queries.now) in
    let ended : NotesAll race.widths last c.in_ok-ends.ends c.race_all.new.trace c.ask_ends.new.trace =
    subst (λ (w : Widths). NotesAll w last c.in_ok-ends.ends c.race_all.new.trace c.ask_ends.new.trace) c.in-Ok.ensures.table.0 c.in_ok-ends.ensures.seen in
    let all = notes_then race.widths rounds last c.in_ok-raced.raced.asks c.in_ok-ends.ends c.args.trace.now c.race_all.new.trace c.ask_ends.new.trace c.in_ok-raced.ensures.seen ended in
    let raced = c.in_ok-raced.raced in
    IfOk-weaker c.report_of.result _ _
    (λ r text. report_grew (setting_of race) raced.order.items raced.backs.items raced.asks c.in_ok-ends.ends r.report c.args.trace.now c.ask_ends.new.trace all c.in_ok-raced.ensures.raced.2.backs text)
    c.report_of.ensures.text

pub returns-clause-trace_first : goal.returns-clause-trace_first
returns-clause-trace_first g c =
    let race = c.args.race.now in
    let rounds = all_rounds (setting_of race) in
    let last = ends_of race.queries.now race.master (length race.queries.now) in
    let ended : NotesAll race.widths last c.in_ok-ends.ends c.race_all.new.trace c.ask_ends.new.trace =
    subst (λ (w : Widths). NotesAll w last c.in_ok-ends.ends c.race_all.new.trace c.ask_ends.new.trace) c.in-Ok.ensures.table.0 c.in_ok-ends.ensures.seen in
    let all = notes_then race.widths rounds last c.in_ok-raced.raced.asks c.in_ok-ends.ends c.args.trace.now c.race_all.new.trace c.ask_ends.new.trace c.in_ok-raced.ensures.seen ended in
    if_err _ _ (first_all race.widths (all_questions (setting_of race)) (c.in_ok-raced.raced.asks ++ c.in_ok-ends.ends) c.args.trace.now c.ask_ends.new.trace all)

pub returns-in_err-raced-clause-trace_first : goal.returns-in_err-raced-clause-trace_first
returns-in_err-raced-clause-trace_first g c =
    let race = c.args.race.now in
    if_err _ _ (first_more race.widths (all_rounds (setting_of race)) (ends_of race.queries.now race.master (length race.queries.now)) c.args.trace.now c.race_all.new.trace c.in_err-raced.ensures.seen_first)

pub returns-in_err-ends-clause-trace_first : goal.returns-in_err-ends-clause-trace_first
returns-in_err-ends-clause-trace_first g c =
    let race = c.args.race.now in
    let last = ends_of race.queries.now race.master (length race.queries.now) in
    if_err _ _ (first_behind race.widths (all_rounds (setting_of race)) last c.in_ok-raced.raced.asks c.args.trace.now c.race_all.new.trace c.ask_ends.new.trace c.in_ok-raced.ensures.seen
    (subst (λ (w : Widths). NotesFirst w last c.race_all.new.trace c.ask_ends.new.trace) c.in-Ok.ensures.table.0 c.in_err-ends.ensures.seen))

pub returns-in_default-clause-trace_first : goal.returns-in_default-clause-trace_first
returns-in_default-clause-trace_first g c =
    first_none c.args.race.now.widths (all_questions (setting_of c.args.race.now)) c.args.trace.now
