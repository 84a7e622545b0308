use Rattle.std.proofs.Common.{◌≡◌, ◌++◌}
use Rattle.race_play.proofs.report.push_lines.Given as goal

abbrev pub invariant-loop-line : goal.invariant-loop-line
invariant-loop-line l = (l.report ≡ l.initial.report ++ l.yielded)
