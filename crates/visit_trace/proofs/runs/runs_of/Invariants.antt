use Rattle.std.proofs.Common.{◌≡◌, ◌++◌, drop}
use Rattle.visit_trace.specs.Runs.{run_visits, visits_of}
use Rattle.visit_trace.proofs.runs.runs_of.Given as goal

abbrev pub invariant-loop-visit : goal.invariant-loop-visit
invariant-loop-visit l = visits_of l.runs.items ++ run_visits l.run ++ drop l.visit-index l.others ≡ l.visits
