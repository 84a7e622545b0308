use Rattle.std.proofs.Common.{◌≤◌}
use Rattle.tree_tests.proofs.trees.plain.Given as goal

abbrev pub invariant-loop-place : goal.invariant-loop-place
invariant-loop-place l = l.count ≤ l.place
