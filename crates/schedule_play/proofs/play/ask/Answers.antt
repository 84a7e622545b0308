use Rattle.std.proofs.Common.{◌≡◌, ◌∙◌, ℕ, ◌+◌, refl, ap, subst, length, List, arith}
use Rattle.std.specs.List.{flat_map, range_with_len}
use Rattle.std.proofs.lemmas.Result.{err_from_is_err_and}
use Rattle.visit_trace.specs.Growing.{prefix_none}
use Rattle.visit_trace.specs.Seen.{Grew}
use Rattle.visit_trace.specs.declared.sizes.Sizes.{Sizes}
use Rattle.waldo_words.specs.declared.schedule.Step.{Step}
use Rattle.schedule_play.specs.Leads.{Stops}
use Rattle.schedule_play.specs.Plays.{seen}
use Rattle.schedule_play.specs.Ready.{stage_of}
use Rattle.schedule_play.specs.Stages.{Stage}
use Rattle.schedule_play.specs.Tasks.{append_steps, ask_steps, asking}
use Rattle.schedule_play.specs.Traces.{AddsUpTo, asked_sizes, sizes_from, traces_of}
use Rattle.schedule_play.specs.declared.style.Style.TheVariants.{Queries}
use Rattle.schedule_play.proofs.Asking.{asked_over}
use Rattle.schedule_play.proofs.Loops.{length-parts}
use Rattle.schedule_play.proofs.Outcomes.{leads_both, leads_plays, leads_stops, nothing_plays, stops_plays}
use Rattle.schedule_play.proofs.Unasked.{rows_lead}
use Rattle.schedule_play.proofs.play.ask.Goals as goal

-- the steps that append, and those that ask
abbrev appended : ℕ → List Step
appended n = flat_map (λ (row : ℕ). append_steps) (range_with_len 0 n)

abbrev asked : ℕ → List Step
asked n = flat_map ask_steps (range_with_len 0 n)

pub returns-in_err-progress-clause-plays : goal.returns-in_err-progress-clause-plays
returns-in_err-progress-clause-plays g c =
    let p = err_from_is_err_and c.from_residual.result c.from_residual.ensures.1 in
    rw (p.1, p.2)
    (nothing_plays g.W.Wire.sight c.args.setting.now.widths (asking (seen c.args.setting.now)) _ _ g.met.W.Wire.none_passes refl)

pub returns-in_err-append_rows-clause-plays : goal.returns-in_err-append_rows-clause-plays
returns-in_err-append_rows-clause-plays g c =
    let p = err_from_is_err_and c.from_residual-in_err-append_rows.result c.from_residual-in_err-append_rows.ensures.1 in
    rw (p.1, p.2)
    (nothing_plays g.W.Wire.sight c.args.setting.now.widths (asking (seen c.args.setting.now)) _ _ g.met.W.Wire.none_passes refl)

pub returns-in_err-ask_queries-clause-plays : goal.returns-in_err-ask_queries-clause-plays
returns-in_err-ask_queries-clause-plays g c =
    let p = err_from_is_err_and c.from_residual-in_err-ask_queries.result c.from_residual-in_err-ask_queries.ensures.1 in
    let s = seen c.args.setting.now in
    let w = c.args.setting.now.widths in
    let vs = c.args.wires.now.items in
    let first = stage_of c.in_ok-progress.progress in
    let mid = stage_of c.append_rows.new.self in
    let count : c.append_rows.new.self.done ≡ c.in_ok-progress.progress.done + length (appended (length s.rows)) =
    omega (arith, c.in_ok-append_rows.ensures.done, c.in_ok-progress.ensures.done, length-parts (λ (row : ℕ). append_steps) 4 0 (length s.rows) (λ i. refl)) in
    rw (p.1, p.2)
    (stops_plays g.W.Wire.sight w (asking s) vs
    c.ask_queries.new.wires.items c.in_ok-progress.progress.done first _ c.in_ok-progress.ensures.done c.in_ok-progress.ensures.stage
    (leads_stops g.W.Wire.sight w s Queries g.met.W.Wire.both_pass c.in_ok-progress.progress.done first
    mid vs vs c.ask_queries.new.wires.items (appended (length s.rows)) (asked (length s.queries)) _
    (rows_lead g.W.Wire.sight g.met.W.Wire.none_passes w s first mid vs c.in_ok-progress.ensures.stage c.in_ok-append_rows.ensures.stage)
    (subst (λ (t : ℕ). Stops g.W.Wire.sight w s Queries t mid vs
    (asked (length s.queries)) c.ask_queries.new.wires.items c.in_err-ask_queries.field-0.0) count c.in_err-ask_queries.ensures.stops)))

pub returns-clause-plays : goal.returns-clause-plays
returns-clause-plays g c =
    let s = seen c.args.setting.now in
    let w = c.args.setting.now.widths in
    let vs = c.args.wires.now.items in
    let first = stage_of c.in_ok-progress.progress in
    let mid = stage_of c.append_rows.new.self in
    leads_plays g.W.Wire.sight w (asking s) vs
    c.ask_queries.new.wires.items first (stage_of c.ask_queries.new.progress) c.into_played.result c.in_ok-progress.ensures.stage
    (leads_both g.W.Wire.sight w s Queries g.met.W.Wire.both_pass first mid
    (stage_of c.ask_queries.new.progress) vs vs c.ask_queries.new.wires.items (appended (length s.rows)) (asked (length s.queries))
    (rows_lead g.W.Wire.sight g.met.W.Wire.none_passes w s first mid vs c.in_ok-progress.ensures.stage c.in_ok-append_rows.ensures.stage)
    c.in_ok-ask_queries.ensures.leads)
    c.into_played.ensures.report c.into_played.ensures.altered

pub returns-in_err-progress-clause-trace : goal.returns-in_err-progress-clause-trace
returns-in_err-progress-clause-trace g c =
    let p = err_from_is_err_and c.from_residual.result c.from_residual.ensures.1 in
    let s = seen c.args.setting.now in
    rw (p.1, p.2) (prefix_none c.args.trace.now (traces_of (asked_sizes c.args.setting.now.widths (length s.rows) s.queries)))

pub returns-in_err-append_rows-clause-trace : goal.returns-in_err-append_rows-clause-trace
returns-in_err-append_rows-clause-trace g c =
    let p = err_from_is_err_and c.from_residual-in_err-append_rows.result c.from_residual-in_err-append_rows.ensures.1 in
    let s = seen c.args.setting.now in
    rw (p.1, p.2) (prefix_none c.args.trace.now (traces_of (asked_sizes c.args.setting.now.widths (length s.rows) s.queries)))

pub returns-in_err-ask_queries-clause-trace : goal.returns-in_err-ask_queries-clause-trace
returns-in_err-ask_queries-clause-trace g c =
    let p = err_from_is_err_and c.from_residual-in_err-ask_queries.result c.from_residual-in_err-ask_queries.ensures.1 in
    let s = seen c.args.setting.now in
    let w = c.args.setting.now.widths in
    rw (p.1, p.2)
    (subst (λ (zs : List Sizes). AddsUpTo zs c.args.trace.now c.ask_queries.new.trace c.in_err-ask_queries.field-0.0)
    (ap (λ (stage : Stage). sizes_from w s stage (asked (length s.queries))) c.in_ok-append_rows.ensures.stage ∙ asked_over w s)
    c.in_err-ask_queries.ensures.trace)

pub returns-clause-trace : goal.returns-clause-trace
returns-clause-trace g c =
    let s = seen c.args.setting.now in
    let w = c.args.setting.now.widths in
    subst (λ (zs : List Sizes). Grew c.args.trace.now c.ask_queries.new.trace (traces_of zs))
    (ap (λ (stage : Stage). sizes_from w s stage (asked (length s.queries))) c.in_ok-append_rows.ensures.stage ∙ asked_over w s)
    c.in_ok-ask_queries.ensures.trace
