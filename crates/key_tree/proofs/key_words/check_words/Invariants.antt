use Rattle.std.proofs.Common.{◌<◌, ◌≤◌, ℕ}
use Rattle.key_tree.specs.KeyWords.{control_at}
use Rattle.key_tree.proofs.key_words.check_words.Given as goal

abbrev pub invariant-loop-i : goal.invariant-loop-i
invariant-loop-i g l = (k : ℕ) → k < l.i → control_at g.L.KeyLevel.WIDTH l.words k ≤ 3
