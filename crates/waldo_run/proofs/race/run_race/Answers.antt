use Rattle.std.proofs.Common.{◌∙◌, sym, arith}
use Rattle.waldo_run.proofs.Racing.{replied_part}
use Rattle.waldo_run.proofs.Statuses.{own_status}
use Rattle.waldo_run.proofs.Wires.{rose_unless}
use Rattle.waldo_run.proofs.race.run_race.Goals as goal

pub returns-in-Ok-clause-altered : goal.returns-in-Ok-clause-altered
returns-in-Ok-clause-altered g c = λ seven. rose_unless g.W.Wire.sight c.args.wires.now.items _
    (λ still. c.in-Ok.ensures.accepted still
    (sym (own_status c.in-Ok.reply _ _ (λ four. omega (arith, four, seven)) (c.finish.ensures.puts (λ six. omega (arith, six, seven)))) ∙ seven))

pub returns-in-Ok-clause-trace_first : goal.returns-in-Ok-clause-trace_first
returns-in-Ok-clause-trace_first g c = λ six. replied_part c.args.trace.now c.race_words.new.trace _ _ _ c.in-Ok.reply c.in-Ok.ensures.raced
