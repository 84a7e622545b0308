use Rattle.std.proofs.lemmas.Result.{IfOk-weaker}
use Rattle.std.specs.Prelude.{Ok}
use Rattle.waldo_run.proofs.Begun.{nothing_breaks, on_err, unread_replies, whole_breaks, whole_replies}
use Rattle.waldo_run.proofs.Growing.{unread_sees, whole_sees}
use Rattle.waldo_run.specs.Tampered.{shifts_of}
use Rattle.waldo_run.proofs.Tampering.{still_carried}
use Rattle.waldo_run.proofs.still.answer_input.Goals as goal

pub returns-in-Ok-clause-reply : goal.returns-in-Ok-clause-reply
returns-in-Ok-clause-reply g c =
    whole_replies c.args.command.now _ c.in-Ok.bytes.items _ _ c.requires.reads c.in-Ok.ensures.whole c.answer_bytes.result c.answer_bytes.ensures.answers

pub returns-in-Ok-clause-memory : goal.returns-in-Ok-clause-memory
returns-in-Ok-clause-memory g c =
    whole_breaks c.args.command.now _ c.in-Ok.bytes.items _ _ c.requires.reads c.in-Ok.ensures.whole c.answer_bytes.result c.answer_bytes.ensures.answers

pub returns-in-Err-clause-reply : goal.returns-in-Err-clause-reply
returns-in-Err-clause-reply g c =
    let none = still_carried g.W.Wire.sight g.met.W.Wire.none_passes (shifts_of (Ok c.args.command.now)) c.args.wires.now.items in
    IfOk-weaker c.unread_input.result _ _
    (λ reply e. unread_replies c.args.command.now c.in-Err.fault _ _ _ reply c.requires.reads c.in-Err.ensures.fault none e) c.unread_input.ensures

pub returns-in-Err-clause-memory : goal.returns-in-Err-clause-memory
returns-in-Err-clause-memory g c =
    on_err c.unread_input.result _
    (nothing_breaks (Ok c.args.command.now) _ _ (still_carried g.W.Wire.sight g.met.W.Wire.none_passes (shifts_of (Ok c.args.command.now)) c.args.wires.now.items))

pub returns-in-Ok-clause-trace : goal.returns-in-Ok-clause-trace
returns-in-Ok-clause-trace g c =
    whole_sees c.args.command.now _ c.in-Ok.bytes.items c.requires.reads c.in-Ok.ensures.whole c.args.trace.now c.answer_bytes.new.trace c.answer_bytes.result c.answer_bytes.ensures.trace

pub returns-in-Err-clause-trace : goal.returns-in-Err-clause-trace
returns-in-Err-clause-trace g c =
    unread_sees c.args.command.now c.in-Err.fault _ c.requires.reads c.in-Err.ensures.fault c.args.trace.now c.unread_input.result
    (IfOk-weaker c.unread_input.result _ _ (λ reply e. e.1) c.unread_input.ensures)
