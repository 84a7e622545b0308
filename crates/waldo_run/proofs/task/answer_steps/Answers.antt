use Rattle.std.proofs.Common.{rules}
use Rattle.std.proofs.lemmas.Result.{IfOk-from_err}
use Rattle.waldo_run.proofs.Answering.{answered, begun}
use Rattle.waldo_run.proofs.Growing.{reported_adds, unreplied}
use Rattle.waldo_run.proofs.Settings.{task_legal}
use Rattle.waldo_run.specs.Grown.{sizes_by}
use Rattle.waldo_run.proofs.task.answer_steps.Goals as goal

pub play-played-requires-clause-setting : goal.play-played-requires-clause-setting
play-played-requires-clause-setting g c κs within = task_legal c.args.command.now c.args.widths.now c.args.rows.now c.requires.legal c.requires.widths c.requires.held c.requires.few

pub returns-in_err-reply-clause-asked : goal.returns-in_err-reply-clause-asked
returns-in_err-reply-clause-asked g c =
    let p = c.play-played.ensures.plays in (
      p.history,
      p.sent,
      begun c.args.command.now c.args.widths.now c.args.rows.now p.history _ c.requires.widths c.requires.steps p.ended c.from_residual.result,
      IfOk-from_err c.from_residual.result _ c.from_residual.ensures.0,
    )

pub returns-clause-asked : goal.returns-clause-asked
returns-clause-asked g c =
    let p = c.play-played.ensures.plays in
    let legal = task_legal c.args.command.now c.args.widths.now c.args.rows.now c.requires.legal c.requires.widths c.requires.held c.requires.few in (
      p.history,
      p.sent,
      begun c.args.command.now c.args.widths.now c.args.rows.now p.history _ c.requires.widths c.requires.steps p.ended c.reported.result,
      answered c.args.command.now c.args.widths.now c.args.rows.now _ _ _ c.requires.widths c.requires.steps legal p c.in_ok-reply.reply c.in_ok-reply.ensures c.reported.result c.reported.ensures,
    )

pub returns-in_err-reply-clause-trace : goal.returns-in_err-reply-clause-trace
returns-in_err-reply-clause-trace g c =
    unreplied (sizes_by c.args.command.now c.args.widths.now c.args.rows.now) c.args.trace.now c.play-played.new.trace _ c.play-played.ensures.trace
    c.from_residual.result (search rules)

pub returns-clause-trace : goal.returns-clause-trace
returns-clause-trace g c =
    reported_adds (sizes_by c.args.command.now c.args.widths.now c.args.rows.now) c.args.trace.now c.play-played.new.trace _ c.in_ok-reply.reply c.in_ok-reply.ensures
    c.play-played.ensures.trace c.reported.result
