use Rattle.std.proofs.Common.{◌≡◌, ◌++◌}
use Rattle.race_play.proofs.said.Said.push_all.Given as goal

abbrev pub invariant-loop-line : goal.invariant-loop-line
invariant-loop-line l = (l.self-inside.lines.items ≡ l.initial.self-inside.lines.items ++ l.yielded)
