use Rattle.std.proofs.Common.{ℕ, ◌∙◌, refl, sym, ap, subst, Err, [], ◌∷◌, arith}
use Rattle.std.proofs.lemmas.Result.{err_from_is_err_and}
use Rattle.table_schema.specs.declared.widths.Widths.{Widths}
use Rattle.visit_trace.specs.Growing.{prefix_whole}
use Rattle.visit_trace.specs.Seen.{AllSeen, Grew, GrewPrefix}
use Rattle.waldo_core.specs.Answers.{Begins, Carries}
use Rattle.waldo_core.specs.Machines.{IsHeld}
use Rattle.waldo_core.specs.Step.{Suited, step as step_at}
use Rattle.waldo_core.specs.Traces.{seen_of}
use Rattle.waldo_core.specs.declared.events.StepFault.{StepFault}
use Rattle.schedule_play.specs.Plays.{seen}
use Rattle.schedule_play.specs.Ready.{stage_of}
use Rattle.schedule_play.specs.Traces.{sizes_from, traces_of}
use Rattle.schedule_play.proofs.Asking.{step_adds, step_adds_nothing, step_begins}
use Rattle.schedule_play.proofs.Cases.{event_held, event_quiet, event_suited}
use Rattle.schedule_play.proofs.Readying.{ready_after}
use Rattle.schedule_play.proofs.Single.{no_actor, no_case, no_event, step_begun, step_leads, step_refused, step_refused_at, step_unreported}
use Rattle.schedule_play.proofs.progress.Progress.step.Goals as goal

pub returns-then-actor-ge-ACTORS-clause-stops : goal.returns-then-actor-ge-ACTORS-clause-stops
returns-then-actor-ge-ACTORS-clause-stops g c =
    step_refused g.W.Wire.sight g.met.W.Wire.none_passes c.args.setting.now.widths (seen c.args.setting.now) c.args.style (stage_of c.args.self.now)
    c.args.step c.args.wires.now.items c.args.self.now.done
    (no_actor (seen c.args.setting.now) c.args.style (stage_of c.args.self.now) c.args.step (omega (arith, c.requires.ready.actors, c.actor_in-actor.ensures, c.if-actor-ge-ACTORS.true)))

pub returns-in_default-clause-stops : goal.returns-in_default-clause-stops
returns-in_default-clause-stops g c =
    step_refused g.W.Wire.sight g.met.W.Wire.none_passes c.args.setting.now.widths (seen c.args.setting.now) c.args.style (stage_of c.args.self.now)
    c.args.step c.args.wires.now.items c.args.self.now.done
    (no_event (seen c.args.setting.now) c.args.style (stage_of c.args.self.now) c.args.step (sym c.in_default.ensures))

pub step-requires-clause-held : goal.step-requires-clause-held
step-requires-clause-held g c κs within =
    subst (λ (w : Widths). IsHeld w c.in-Some.event) (sym c.requires.ready.widths)
    (event_held (seen c.args.setting.now) (stage_of c.args.self.now) c.args.setting.now.widths c.args.step c.in-Some.event c.requires.legal.held (sym c.in-Some.ensures))

pub returns-in_err-count-in-Ok-clause-stops : goal.returns-in_err-count-in-Ok-clause-stops
returns-in_err-count-in-Ok-clause-stops g c =
    let p = err_from_is_err_and c.from_residual.result c.from_residual.ensures.1 in
    let h = c.in-Ok.ensures.stepped in
    let s = seen c.args.setting.now in
    let stage = stage_of c.args.self.now in
    let e = sym c.in-Some.ensures in
    rw (p.1, p.2)
    (step_unreported g.W.Wire.sight g.met.W.Wire.none_passes c.args.setting.now.widths s c.args.style stage c.args.step c.args.wires.now.items
    c.args.self.now.done c.in-Some.event h.0 h.1 c.step.new.self.core c.in-Ok.reply c.from.result c.index_mut-wire.result.now c.step.new.wire e
    (subst (λ (w : Widths). Carries w stage.core c.in-Some.event h.0 h.1) c.requires.ready.widths h.3.1)
    (sym (ap (λ (n : ℕ). step_at n stage.core c.in-Some.event h.1) c.requires.ready.capacity) ∙ h.3.2)
    (sym (c.from.ensures ∙ c.actor_in-actor.ensures)) (omega (arith, c.requires.wires (omega (arith, c.actor_in-actor.ensures, c.if-actor-ge-ACTORS.false)), c.from.ensures, c.actor_in-actor.ensures)) c.index_mut-wire.ensures.value
    h.2 (λ still. c.in-Ok.ensures.quiet (event_quiet s stage c.args.step c.in-Some.event e still)) (λ honest. (h.4 honest).0))

pub returns-in_ok-count-in-Ok-clause-ready : goal.returns-in_ok-count-in-Ok-clause-ready
returns-in_ok-count-in-Ok-clause-ready g c =
    let h = c.in-Ok.ensures.stepped in
    let k = c.in_ok-count-in-Ok.ensures in
    ready_after c.args.setting.now.widths (seen c.args.setting.now) c.args.self.now c.count.new.self c.in-Some.event h.1 c.step.new.self.core c.in-Ok.reply c.requires.ready
    h.3.2 (k.machine ∙ h.3.3) c.in-Ok.ensures.legal k.drawn k.done k.rounds

pub returns-in_ok-count-in-Ok-clause-leads : goal.returns-in_ok-count-in-Ok-clause-leads
returns-in_ok-count-in-Ok-clause-leads g c =
    let h = c.in-Ok.ensures.stepped in
    let s = seen c.args.setting.now in
    let stage = stage_of c.args.self.now in
    let e = sym c.in-Some.ensures in
    step_leads g.W.Wire.sight g.met.W.Wire.none_passes c.args.setting.now.widths s c.args.style stage c.args.step c.args.wires.now.items
    c.in-Some.event h.0 h.1 c.step.new.self.core c.in-Ok.reply c.from.result c.index_mut-wire.result.now c.step.new.wire (stage_of c.count.new.self) e
    (subst (λ (w : Widths). Carries w stage.core c.in-Some.event h.0 h.1) c.requires.ready.widths h.3.1)
    (sym (ap (λ (n : ℕ). step_at n stage.core c.in-Some.event h.1) c.requires.ready.capacity) ∙ h.3.2) c.in_ok-count-in-Ok.ensures.stage
    (sym (c.from.ensures ∙ c.actor_in-actor.ensures)) (omega (arith, c.requires.wires (omega (arith, c.actor_in-actor.ensures, c.if-actor-ge-ACTORS.false)), c.from.ensures, c.actor_in-actor.ensures)) c.index_mut-wire.ensures.value
    h.2 (λ still. c.in-Ok.ensures.quiet (event_quiet s stage c.args.step c.in-Some.event e still)) (λ honest. (h.4 honest).0) (λ still. c.in-Ok.ensures.accepted still)

pub returns-in-Err-NotAllowed-clause-stops : goal.returns-in-Err-NotAllowed-clause-stops
returns-in-Err-NotAllowed-clause-stops g c =
    let h = rw c.in-Err-NotAllowed.field-0-is at c.in-Err-NotAllowed.ensures.stepped in
    let s = seen c.args.setting.now in
    let stage = stage_of c.args.self.now in
    let e = sym c.in-Some.ensures in
    step_refused_at g.W.Wire.sight g.met.W.Wire.none_passes c.args.setting.now.widths s c.args.style stage c.args.step c.args.wires.now.items
    c.args.self.now.done c.from.result c.index_mut-wire.result.now c.step.new.wire
    (no_case s c.args.style stage c.args.step c.args.self.now.machine c.in-Some.event e c.requires.ready.capacity refl
    (subst (λ (w : Widths). Suited w c.in-Some.event) (sym c.requires.ready.widths) (event_suited s stage c.args.setting.now.widths c.args.step c.in-Some.event c.requires.legal.suits e)) h.3.2)
    c.index_mut-wire.ensures.value (c.in-Err-NotAllowed.ensures.refused c.in-Err-NotAllowed.field-0-0 (ap (λ (f : StepFault). Err f) c.in-Err-NotAllowed.field-0-is))

pub returns-in-Err-Memory-clause-stops : goal.returns-in-Err-Memory-clause-stops
returns-in-Err-Memory-clause-stops g c =
    let h = rw c.in-Err-Memory.field-0-is at c.in-Err-Memory.ensures.stepped in
    let s = seen c.args.setting.now in
    let stage = stage_of c.args.self.now in
    let e = sym c.in-Some.ensures in
    step_begun g.W.Wire.sight g.met.W.Wire.none_passes c.args.setting.now.widths s c.args.style stage c.args.step c.args.wires.now.items
    c.args.self.now.done c.in-Some.event h.0 c.from.result c.index_mut-wire.result.now c.step.new.wire e
    (subst (λ (w : Widths). Begins w stage.core c.in-Some.event h.0) c.requires.ready.widths h.3.0)
    (sym (c.from.ensures ∙ c.actor_in-actor.ensures)) (omega (arith, c.requires.wires (omega (arith, c.actor_in-actor.ensures, c.if-actor-ge-ACTORS.false)), c.from.ensures, c.actor_in-actor.ensures)) c.index_mut-wire.ensures.value
    h.2 (λ still. c.in-Err-Memory.ensures.quiet (event_quiet s stage c.args.step c.in-Some.event e still))

-- what the servers see of the step

pub returns-then-actor-ge-ACTORS-clause-trace : goal.returns-then-actor-ge-ACTORS-clause-trace
returns-then-actor-ge-ACTORS-clause-trace g c =
    step_adds_nothing c.args.setting.now.widths (seen c.args.setting.now) (stage_of c.args.self.now) c.args.step c.args.style c.args.trace.now
    (no_actor (seen c.args.setting.now) c.args.style (stage_of c.args.self.now) c.args.step (omega (arith, c.requires.ready.actors, c.actor_in-actor.ensures, c.if-actor-ge-ACTORS.true)))

pub returns-in_default-clause-trace : goal.returns-in_default-clause-trace
returns-in_default-clause-trace g c =
    step_adds_nothing c.args.setting.now.widths (seen c.args.setting.now) (stage_of c.args.self.now) c.args.step c.args.style c.args.trace.now
    (no_event (seen c.args.setting.now) c.args.style (stage_of c.args.self.now) c.args.step (sym c.in_default.ensures))

pub returns-in_err-count-in-Ok-clause-trace : goal.returns-in_err-count-in-Ok-clause-trace
returns-in_err-count-in-Ok-clause-trace g c =
    let p = err_from_is_err_and c.from_residual.result c.from_residual.ensures.1 in
    let w = c.args.setting.now.widths in
    let s = seen c.args.setting.now in
    let stage = stage_of c.args.self.now in
    rw (p.1, p.2)
    (prefix_whole c.args.trace.now c.step.new.trace (traces_of (sizes_from w s stage (c.args.step ∷ [])))
    (step_adds w s stage c.args.step c.in-Some.event c.args.trace.now c.step.new.trace (sym c.in-Some.ensures)
    (subst (λ (v : Widths). Grew c.args.trace.now c.step.new.trace (seen_of v stage.core c.in-Some.event)) c.requires.ready.widths c.in-Ok.ensures.trace)))

pub returns-in_ok-count-in-Ok-clause-trace : goal.returns-in_ok-count-in-Ok-clause-trace
returns-in_ok-count-in-Ok-clause-trace g c =
    let stage = stage_of c.args.self.now in
    step_adds c.args.setting.now.widths (seen c.args.setting.now) stage c.args.step c.in-Some.event c.args.trace.now c.step.new.trace (sym c.in-Some.ensures)
    (subst (λ (v : Widths). Grew c.args.trace.now c.step.new.trace (seen_of v stage.core c.in-Some.event)) c.requires.ready.widths c.in-Ok.ensures.trace)

pub returns-in-Err-NotAllowed-clause-trace : goal.returns-in-Err-NotAllowed-clause-trace
returns-in-Err-NotAllowed-clause-trace g c =
    let h = rw c.in-Err-NotAllowed.field-0-is at c.in-Err-NotAllowed.ensures.stepped in
    let same = rw c.in-Err-NotAllowed.field-0-is at c.in-Err-NotAllowed.ensures.trace in
    let w = c.args.setting.now.widths in
    let s = seen c.args.setting.now in
    let stage = stage_of c.args.self.now in
    let e = sym c.in-Some.ensures in
    subst (λ (t : AllSeen). Grew c.args.trace.now t (traces_of (sizes_from w s stage (c.args.step ∷ [])))) (sym same)
    (step_adds_nothing w s stage c.args.step c.args.style c.args.trace.now
    (no_case s c.args.style stage c.args.step c.args.self.now.machine c.in-Some.event e c.requires.ready.capacity refl
    (subst (λ (v : Widths). Suited v c.in-Some.event) (sym c.requires.ready.widths) (event_suited s stage w c.args.step c.in-Some.event c.requires.legal.suits e)) h.3.2))

pub returns-in-Err-Memory-clause-trace : goal.returns-in-Err-Memory-clause-trace
returns-in-Err-Memory-clause-trace g c =
    let more = rw c.in-Err-Memory.field-0-is at c.in-Err-Memory.ensures.trace in
    let stage = stage_of c.args.self.now in
    step_begins c.args.setting.now.widths (seen c.args.setting.now) stage c.args.step c.in-Some.event c.args.trace.now c.step.new.trace (sym c.in-Some.ensures)
    (subst (λ (v : Widths). GrewPrefix c.args.trace.now c.step.new.trace (seen_of v stage.core c.in-Some.event)) c.requires.ready.widths more)
