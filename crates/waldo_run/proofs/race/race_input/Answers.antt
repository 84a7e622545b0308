use Rattle.std.proofs.Common.{inl, refl}
use Rattle.visit_trace.specs.Growing.{grew_nothing}
use Rattle.visit_trace.specs.Seen.{Grew}
use Rattle.waldo_run.proofs.Begun.{on_err}
use Rattle.waldo_run.proofs.Racing.{crew_part, input_refused, none_carried, whole_carried, whole_raced}
use Rattle.waldo_run.proofs.race.race_input.Goals as goal

pub returns-in-Ok-clause-raced : goal.returns-in-Ok-clause-raced
returns-in-Ok-clause-raced g c =
    whole_raced c.args.common.now c.args.crew _ c.in-Ok.bytes.items _ _ c.requires.crew c.in-Ok.ensures.whole c.race_bytes.result c.race_bytes.ensures.raced

pub returns-in-Ok-clause-carried : goal.returns-in-Ok-clause-carried
returns-in-Ok-clause-carried g c =
    let h = c.race_bytes.ensures.carried in
    whole_carried c.args.common.now c.args.crew _ c.in-Ok.bytes.items _ c.requires.crew c.in-Ok.ensures.whole h.0 h.1 h.2

pub returns-in-Err-clause-carried : goal.returns-in-Err-clause-carried
returns-in-Err-clause-carried g c = none_carried _ _ _ refl

pub returns-in-Err-clause-raced : goal.returns-in-Err-clause-raced
returns-in-Err-clause-raced g c =
    input_refused _ (Grew c.args.trace.now c.args.trace.now) refl (grew_nothing c.args.trace.now) c.args.common.now c.args.crew.writers c.args.crew.askers c.args.crew.rounds _ c.in-Err.fault
    c.in-Err.ensures.fault c.unread_input.result c.unread_input.ensures

pub returns-in-Ok-clause-trace_first : goal.returns-in-Ok-clause-trace_first
returns-in-Ok-clause-trace_first g c =
    crew_part c.args.trace.now c.race_bytes.new.trace c.args.common.now c.args.crew c.requires.crew c.race_bytes.result c.race_bytes.ensures.trace_first

pub returns-in-Err-clause-trace_first : goal.returns-in-Err-clause-trace_first
returns-in-Err-clause-trace_first g c = on_err _ _ (inl refl)
