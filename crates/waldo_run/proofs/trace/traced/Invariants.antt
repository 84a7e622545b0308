use Rattle.std.proofs.Common.{◌≡◌, ◌++◌, drop}
use Rattle.waldo_run.specs.Traces.{traced}
use Rattle.waldo_run.proofs.trace.traced.Given as goal

abbrev pub invariant-loop-i : goal.invariant-loop-i
invariant-loop-i l = l.traced ++ traced l.i (drop l.i l.seen) (drop l.i l.lines) ≡ traced 0 l.seen l.lines
