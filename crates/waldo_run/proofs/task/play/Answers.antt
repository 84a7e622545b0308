use Rattle.std.proofs.Common.{ap, arith, refl}
use Rattle.std.specs.Prelude.{Ok}
use Rattle.waldo_words.specs.declared.command.Command.{Command}
use Rattle.waldo_run.specs.Tampered.{shifts_of}
use Rattle.waldo_run.proofs.Tampering.{plays_straight, tamper_plays}
use Rattle.waldo_run.proofs.Growing.{ask_adds, make_adds, replay_adds, tamper_adds, trace_adds}
use Rattle.waldo_run.proofs.Played.{ask_plays, make_plays, replay_plays, trace_plays}
use Rattle.waldo_run.proofs.task.play.Goals as goal

pub returns-in-Ask-clause-plays : goal.returns-in-Ask-clause-plays
returns-in-Ask-clause-plays g c =
    plays_straight g.W.Wire.sight _ _ _ _ _ _ (ap (λ (x : Command). shifts_of (Ok x)) c.in-Ask.is)
    (ask_plays c.args.widths.now _ c.args.rows.now _ _ _ _ c.setting.ensures.widths c.args.command.now c.in-Ask.common c.in-Ask.is c.setting.ensures.seen c.ask.ensures.plays)

pub returns-in-Make-clause-plays : goal.returns-in-Make-clause-plays
returns-in-Make-clause-plays g c =
    plays_straight g.W.Wire.sight _ _ _ _ _ _ (ap (λ (x : Command). shifts_of (Ok x)) c.in-Make.is)
    (make_plays c.args.widths.now _ c.args.rows.now _ _ _ _ c.setting-in-Make.ensures.widths c.args.command.now c.in-Make.common _ _ c.in-Make.is c.setting-in-Make.ensures.seen
    c.ask-in-Make.ensures.plays)

pub returns-in-Trace-clause-plays : goal.returns-in-Trace-clause-plays
returns-in-Trace-clause-plays g c =
    plays_straight g.W.Wire.sight _ _ _ _ _ _ (ap (λ (x : Command). shifts_of (Ok x)) c.in-Trace.is)
    (trace_plays c.args.widths.now _ c.args.rows.now _ _ _ _ c.setting-in-Trace.ensures.widths c.args.command.now c.in-Trace.common c.in-Trace.is c.setting-in-Trace.ensures.seen
    c.ask-in-Trace.ensures.plays)

pub returns-in-Replay-clause-plays : goal.returns-in-Replay-clause-plays
returns-in-Replay-clause-plays g c =
    plays_straight g.W.Wire.sight _ _ _ _ _ _ (ap (λ (x : Command). shifts_of (Ok x)) c.in-Replay.is)
    (replay_plays c.args.widths.now _ c.args.rows.now _ _ _ _ c.setting-in-Replay.ensures.widths c.args.command.now c.in-Replay.common c.in-Replay.schedule _ c.in-Replay.is
    c.setting-in-Replay.ensures.seen c.as_slice.ensures c.replay.ensures.plays)

pub returns-in-Tamper-clause-plays : goal.returns-in-Tamper-clause-plays
returns-in-Tamper-clause-plays g c =
    tamper_plays g.W.Wire.sight c.args.wires.now.items _ c.tamper.result c.args.widths.now _ c.args.rows.now _ c.in-Tamper.shifts _
    c.args.command.now c.in-Tamper.common c.index_mut.result.now c.tamper.new.wire c.setting-in-Tamper.ensures.widths c.in-Tamper.is c.setting-in-Tamper.ensures.seen
    c.as_slice-in-Tamper.ensures (omega (arith, c.requires.wires)) c.index_mut.ensures.value refl c.tamper.ensures.plays

-- what the servers see of the steps

pub returns-in-Ask-clause-trace : goal.returns-in-Ask-clause-trace
returns-in-Ask-clause-trace g c =
    ask_adds c.args.widths.now _ c.args.rows.now _ _ _ _ c.setting.ensures.widths c.args.command.now c.in-Ask.common c.in-Ask.is c.setting.ensures.seen c.ask.ensures.trace

pub returns-in-Make-clause-trace : goal.returns-in-Make-clause-trace
returns-in-Make-clause-trace g c =
    make_adds c.args.widths.now _ c.args.rows.now _ _ _ _ c.setting-in-Make.ensures.widths c.args.command.now c.in-Make.common _ _ c.in-Make.is c.setting-in-Make.ensures.seen
    c.ask-in-Make.ensures.trace

pub returns-in-Trace-clause-trace : goal.returns-in-Trace-clause-trace
returns-in-Trace-clause-trace g c =
    trace_adds c.args.widths.now _ c.args.rows.now _ _ _ _ c.setting-in-Trace.ensures.widths c.args.command.now c.in-Trace.common c.in-Trace.is c.setting-in-Trace.ensures.seen
    c.ask-in-Trace.ensures.trace

pub returns-in-Replay-clause-trace : goal.returns-in-Replay-clause-trace
returns-in-Replay-clause-trace g c =
    replay_adds c.args.widths.now _ c.args.rows.now _ _ _ _ c.setting-in-Replay.ensures.widths c.args.command.now c.in-Replay.common c.in-Replay.schedule _ c.in-Replay.is
    c.setting-in-Replay.ensures.seen c.as_slice.ensures c.replay.ensures.trace

pub returns-in-Tamper-clause-trace : goal.returns-in-Tamper-clause-trace
returns-in-Tamper-clause-trace g c =
    tamper_adds c.args.widths.now _ c.args.rows.now _ _ _ _ c.setting-in-Tamper.ensures.widths c.args.command.now c.in-Tamper.common _ c.in-Tamper.is c.setting-in-Tamper.ensures.seen
    c.tamper.ensures.trace
