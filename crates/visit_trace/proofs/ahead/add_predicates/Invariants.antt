use Rattle.std.proofs.Common.{◌≡◌, ◌++◌}
use Rattle.list_facts.specs.Listed.{listed}
use Rattle.visit_trace.specs.Sizes.{column_of}
use Rattle.visit_trace.specs.Expected.{visits_over}
use Rattle.visit_trace.proofs.ahead.add_predicates.Given as goal

abbrev pub invariant-loop-j : goal.invariant-loop-j
invariant-loop-j l = l.visits ≡ l.fn.visits ++ visits_over l.sizes.rows (listed l.j (column_of l.sizes))
