use Rattle.std.proofs.Common.{◌≡◌, ◌+◌, ◌≤◌, ◌++◌, length, take, vec_len, vec_capacity}
use Rattle.visit_trace.specs.Runs.{visits_of}
use Rattle.visit_trace.proofs.runs.Runs.add.Given as goal

abbrev pub invariant-loop-run : goal.invariant-loop-run
invariant-loop-run l =
    (visits_of l.self-inside.runs.items ≡ l.fn.self ++ visits_of (take l.run-index l.runs)) ×
    (vec_len l.self-inside.runs + length l.runs ≤ vec_capacity l.self-inside.runs + l.run-index)
