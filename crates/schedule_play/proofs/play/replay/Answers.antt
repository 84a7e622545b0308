use Rattle.std.proofs.Common.{refl, subst, arith}
use Rattle.std.proofs.lemmas.Result.{err_from_is_err_and}
use Rattle.visit_trace.specs.Growing.{prefix_none}
use Rattle.visit_trace.specs.Seen.{Grew}
use Rattle.schedule_play.specs.Plays.{seen}
use Rattle.schedule_play.specs.Ready.{stage_of}
use Rattle.schedule_play.specs.Stages.{Stage}
use Rattle.schedule_play.specs.Tasks.{scheduled}
use Rattle.schedule_play.proofs.Outcomes.{leads_plays, nothing_plays, stops_plays}
use Rattle.schedule_play.specs.Traces.{AddsUpTo, sizes_from, sizes_in, traces_of}
use Rattle.schedule_play.proofs.play.replay.Goals as goal

pub steps-requires-clause-wires : goal.steps-requires-clause-wires
steps-requires-clause-wires g c κs within = λ k d lt small. omega (arith, c.requires.wires, small)

pub returns-in_err-progress-clause-plays : goal.returns-in_err-progress-clause-plays
returns-in_err-progress-clause-plays g c =
    let p = err_from_is_err_and c.from_residual.result c.from_residual.ensures.1 in
    rw (p.1, p.2)
    (nothing_plays g.W.Wire.sight c.args.setting.now.widths (scheduled (seen c.args.setting.now) c.args.schedule.now) _ _ g.met.W.Wire.none_passes refl)

pub returns-in_err-steps-clause-plays : goal.returns-in_err-steps-clause-plays
returns-in_err-steps-clause-plays g c =
    let p = err_from_is_err_and c.from_residual-in_err-steps.result c.from_residual-in_err-steps.ensures.1 in
    rw (p.1, p.2)
    (stops_plays g.W.Wire.sight c.args.setting.now.widths (scheduled (seen c.args.setting.now) c.args.schedule.now) c.args.wires.now.items
    c.steps.new.wires.items c.in_ok-progress.progress.done (stage_of c.in_ok-progress.progress) _ c.in_ok-progress.ensures.done c.in_ok-progress.ensures.stage c.in_err-steps.ensures.stops)

pub returns-clause-plays : goal.returns-clause-plays
returns-clause-plays g c =
    leads_plays g.W.Wire.sight c.args.setting.now.widths (scheduled (seen c.args.setting.now) c.args.schedule.now) c.args.wires.now.items
    c.steps.new.wires.items (stage_of c.in_ok-progress.progress) (stage_of c.steps.new.self) c.into_played.result c.in_ok-progress.ensures.stage c.in_ok-steps.ensures.leads
    c.into_played.ensures.report c.into_played.ensures.altered

pub returns-in_err-progress-clause-trace : goal.returns-in_err-progress-clause-trace
returns-in_err-progress-clause-trace g c =
    let p = err_from_is_err_and c.from_residual.result c.from_residual.ensures.1 in
    rw (p.1, p.2)
    (prefix_none c.args.trace.now (traces_of (sizes_in c.args.setting.now.widths (scheduled (seen c.args.setting.now) c.args.schedule.now))))

pub returns-in_err-steps-clause-trace : goal.returns-in_err-steps-clause-trace
returns-in_err-steps-clause-trace g c =
    let p = err_from_is_err_and c.from_residual-in_err-steps.result c.from_residual-in_err-steps.ensures.1 in
    rw (p.1, p.2)
    (subst (λ (stage : Stage). AddsUpTo (sizes_from c.args.setting.now.widths (seen c.args.setting.now) stage c.args.schedule.now) c.args.trace.now c.steps.new.trace c.in_err-steps.field-0.0)
    c.in_ok-progress.ensures.stage c.in_err-steps.ensures.trace)

pub returns-clause-trace : goal.returns-clause-trace
returns-clause-trace g c =
    subst (λ (stage : Stage). Grew c.args.trace.now c.steps.new.trace (traces_of (sizes_from c.args.setting.now.widths (seen c.args.setting.now) stage c.args.schedule.now)))
    c.in_ok-progress.ensures.stage c.in_ok-steps.ensures.trace
