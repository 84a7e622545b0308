use Rattle.std.proofs.Common.{◌≡◌, length}
use Rattle.tree_tests.proofs.trees.share.Given as goal

abbrev pub invariant-loop-c : goal.invariant-loop-c
invariant-loop-c l = length l.words.items ≡ l.c
