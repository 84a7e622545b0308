use Rattle.waldo_run.proofs.race.race_command.Goals as goal

pub returns-clause-trace_first : goal.returns-clause-trace_first
returns-clause-trace_first g c = rw c.in-Race.is c.race_input.ensures.trace_first
