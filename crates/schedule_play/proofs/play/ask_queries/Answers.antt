use Rattle.std.proofs.Common.{refl, length, arith}
use Rattle.std.specs.List.{flat_map, range_with_len}
use Rattle.std.proofs.lemmas.Result.{err_from_is_err_and}
use Rattle.visit_trace.specs.Growing.{grew_nothing}
use Rattle.schedule_play.specs.Plays.{seen}
use Rattle.schedule_play.specs.Ready.{stage_of}
use Rattle.schedule_play.specs.Tasks.{ask_steps}
use Rattle.schedule_play.specs.declared.style.Style.TheVariants.{Queries}
use Rattle.schedule_play.proofs.Keeping.{kept_first, kept_more, kept_stops}
use Rattle.schedule_play.proofs.Loops.{first_have_wires, length-parts, parts_all, parts_behind, parts_more}
use Rattle.schedule_play.proofs.Tracing.{traces_steps, traces_stop}
use Rattle.schedule_play.proofs.play.ask_queries.Goals as goal

pub loop-query-init : goal.loop-query-init
loop-query-init g c = record {
  kept = kept_first g.W.Wire.sight c.args.setting.now.widths (seen c.args.setting.now) Queries
      g.met.W.Wire.none_passes c.args.progress.now c.args.wires.now.items c.requires.ready;
  traced = grew_nothing c.args.trace.now;
}

pub steps-requires-clause-few : goal.steps-requires-clause-few
steps-requires-clause-few g c κs within =
    omega (arith, c.requires.few, c.requires.queries, c.loop-query.invariant.kept.done, length-parts ask_steps 4 0 c.loop-query.query (λ i. refl))

pub steps-requires-clause-wires : goal.steps-requires-clause-wires
steps-requires-clause-wires g c κs within =
    first_have_wires (length c.loop-query.wires.items) c.loop-query.query (omega (arith, c.loop-query.invariant.kept.same, c.requires.wires))

pub returns-in_err-steps-clause-stops : goal.returns-in_err-steps-clause-stops
returns-in_err-steps-clause-stops g c =
    let p = err_from_is_err_and c.from_residual.result c.from_residual.ensures.1 in
    rw (p.1, p.2)
    (kept_stops g.W.Wire.sight c.args.setting.now.widths (seen c.args.setting.now) Queries
    g.met.W.Wire.both_pass _ _ _ _ _ _ (ask_steps c.loop-query.query) (parts_behind c.loop-query.query (length c.args.setting.now.queries.now) ask_steps) _ _
    (parts_all ask_steps c.loop-query.query (length c.args.setting.now.queries.now) (omega arith)) c.loop-query.invariant.kept c.in_err-steps.ensures.stops)

pub returns-in_err-steps-clause-trace : goal.returns-in_err-steps-clause-trace
returns-in_err-steps-clause-trace g c =
    let p = err_from_is_err_and c.from_residual.result c.from_residual.ensures.1 in
    rw (p.1, p.2)
    (traces_stop c.args.setting.now.widths (seen c.args.setting.now) Queries _
    (flat_map ask_steps (range_with_len 0 c.loop-query.query)) (ask_steps c.loop-query.query)
    (parts_behind c.loop-query.query (length c.args.setting.now.queries.now) ask_steps) _ _ _ (stage_of c.args.progress.now) (stage_of c.loop-query.progress)
    c.args.trace.now c.loop-query.trace c.steps.new.trace _
    (parts_all ask_steps c.loop-query.query (length c.args.setting.now.queries.now) (omega arith))
    c.loop-query.invariant.kept.leads.advances c.in_err-steps.ensures.stops.ends c.loop-query.invariant.traced c.in_err-steps.ensures.trace)

pub loop-query-preserved : goal.loop-query-preserved
loop-query-preserved g c = record {
  kept = kept_more g.W.Wire.sight c.args.setting.now.widths (seen c.args.setting.now) Queries
      g.met.W.Wire.both_pass _ _ _ _ _ _ (flat_map ask_steps (range_with_len 0 c.loop-query.query)) (ask_steps c.loop-query.query) _
      (parts_more ask_steps c.loop-query.query) c.loop-query.invariant.kept c.in_ok-steps.ensures.ready c.in_ok-steps.ensures.done
      c.in_ok-steps.ensures.wires c.in_ok-steps.ensures.leads;
  traced = traces_steps c.args.setting.now.widths (seen c.args.setting.now) Queries
      (flat_map ask_steps (range_with_len 0 c.loop-query.query)) (ask_steps c.loop-query.query) _ _ (stage_of c.args.progress.now) (stage_of c.loop-query.progress)
      c.args.trace.now c.loop-query.trace c.steps.new.trace
      (parts_more ask_steps c.loop-query.query) c.loop-query.invariant.kept.leads.advances c.loop-query.invariant.traced c.in_ok-steps.ensures.trace;
}
