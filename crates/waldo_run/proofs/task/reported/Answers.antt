use Rattle.std.proofs.Common.{◌∙◌, refl, ap}
use Rattle.waldo_words.specs.declared.command.Command.{Command}
use Rattle.waldo_run.specs.Tasks.{bits_of, common_in}
use Rattle.waldo_run.proofs.Tracing.{traced_reply}
use Rattle.waldo_run.proofs.task.reported.Goals as goal

pub returns-in_ok-report-in-Trace : goal.returns-in_ok-report-in-Trace
returns-in_ok-report-in-Trace c =
    traced_reply c.args.command.now c.in-Trace.common c.args.rows.now c.args.reply c.new.result _ _ _ _ _ _ _ _ c.in-Trace.is
    (c.requires.widths.bits ∙ ap (λ (x : Command). bits_of (common_in x)) c.in-Trace.is)
    refl c.as_slice.ensures c.in_ok-seen-in-Trace.ensures c.deref.ensures.value c.report.ensures c.in_ok-report-in-Trace.ensures c.status.ensures.value c.new.ensures
