use Rattle.std.proofs.Common.{rules, ap}
use Rattle.waldo_run.specs.Tasks.{reads_input}
use Rattle.waldo_run.proofs.Growing.{made_sees}
use Rattle.waldo_run.proofs.still.answer.Goals as goal

pub returns-in-Make-clause-trace : goal.returns-in-Make-clause-trace
returns-in-Make-clause-trace g c =
    made_sees c.args.command.now _ (ap reads_input c.in-Make.is) (search rules) c.args.trace.now c.answer_made.new.trace c.answer_made.result c.answer_made.ensures.trace
