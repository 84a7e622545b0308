use Rattle.std.proofs.Common.{◌+◌, [], ◌∷◌, take, drop, get_or, arith}
use Rattle.std.proofs.lemmas.Result.{err_from_is_err_and}
use Rattle.std.proofs.lemmas.List.{take_more}
use Rattle.visit_trace.specs.Growing.{grew_nothing}
use Rattle.waldo_words.specs.declared.schedule.Step.TheVariants.{Draw}
use Rattle.schedule_play.specs.Plays.{seen}
use Rattle.schedule_play.specs.Ready.{stage_of}
use Rattle.schedule_play.proofs.Keeping.{kept_first, kept_more, kept_stops}
use Rattle.schedule_play.proofs.Loops.{steps_all}
use Rattle.schedule_play.proofs.Tracing.{traces_steps, traces_stop}
use Rattle.schedule_play.proofs.progress.Progress.steps.Goals as goal

pub loop-step-init : goal.loop-step-init
loop-step-init g c = record {
  kept = kept_first g.W.Wire.sight c.args.setting.now.widths (seen c.args.setting.now) c.args.style
      g.met.W.Wire.none_passes c.args.self.now c.args.wires.now.items c.requires.ready;
  traced = grew_nothing c.args.trace.now;
}

pub step-requires-clause-wires : goal.step-requires-clause-wires
step-requires-clause-wires g c κs within = λ small.
    omega (arith, c.loop-step.invariant.kept.same, c.requires.wires c.loop-step.step-index (Draw 0) c.loop-step-test.true small)

pub returns-in_err-step-clause-stops : goal.returns-in_err-step-clause-stops
returns-in_err-step-clause-stops g c =
    let p = err_from_is_err_and c.from_residual.result c.from_residual.ensures.1 in
    let xs = c.args.steps.now in
    let i = c.loop-step.step-index in
    rw (p.1, p.2)
    (kept_stops g.W.Wire.sight c.args.setting.now.widths (seen c.args.setting.now) c.args.style
    g.met.W.Wire.both_pass c.args.self.now c.loop-step.self c.args.wires.now.items c.loop-step.wires.items c.step.new.wires.items
    (take i xs) (get_or xs i (Draw 0) ∷ []) (drop (i + 1) xs) xs c.in_err-step.field-0.0
    (steps_all xs i (Draw 0) c.loop-step-test.true) c.loop-step.invariant.kept c.in_err-step.ensures.stops)

pub returns-in_err-step-clause-trace : goal.returns-in_err-step-clause-trace
returns-in_err-step-clause-trace g c =
    let p = err_from_is_err_and c.from_residual.result c.from_residual.ensures.1 in
    let xs = c.args.steps.now in
    let i = c.loop-step.step-index in
    rw (p.1, p.2)
    (traces_stop c.args.setting.now.widths (seen c.args.setting.now) c.args.style _
    (take i xs) (get_or xs i (Draw 0) ∷ []) (drop (i + 1) xs) xs _ _ (stage_of c.args.self.now) (stage_of c.loop-step.self)
    c.args.trace.now c.loop-step.trace c.step.new.trace c.in_err-step.field-0.0
    (steps_all xs i (Draw 0) c.loop-step-test.true) c.loop-step.invariant.kept.leads.advances c.in_err-step.ensures.stops.ends
    c.loop-step.invariant.traced c.in_err-step.ensures.trace)

pub loop-step-preserved : goal.loop-step-preserved
loop-step-preserved g c =
    let xs = c.args.steps.now in
    let i = c.loop-step.step-index in
    record {
      kept = kept_more g.W.Wire.sight c.args.setting.now.widths (seen c.args.setting.now) c.args.style
          g.met.W.Wire.both_pass c.args.self.now c.loop-step.self c.step.new.self c.args.wires.now.items c.loop-step.wires.items c.step.new.wires.items
          (take i xs) (get_or xs i (Draw 0) ∷ []) (take (i + 1) xs) (take_more xs i (Draw 0) c.loop-step-test.true) c.loop-step.invariant.kept
          c.in_ok-step.ensures.ready c.in_ok-step.ensures.done c.in_ok-step.ensures.wires c.in_ok-step.ensures.leads;
      traced = traces_steps c.args.setting.now.widths (seen c.args.setting.now) c.args.style
          (take i xs) (get_or xs i (Draw 0) ∷ []) (take (i + 1) xs) _ (stage_of c.args.self.now) (stage_of c.loop-step.self)
          c.args.trace.now c.loop-step.trace c.step.new.trace
          (take_more xs i (Draw 0) c.loop-step-test.true) c.loop-step.invariant.kept.leads.advances c.loop-step.invariant.traced c.in_ok-step.ensures.trace;
    }
