use Rattle.std.proofs.Common.{◌≡◌, drop}
use Rattle.key_tree.specs.Tree.{descend}
use Rattle.key_tree.proofs.key_level.descend.Given as goal

abbrev pub invariant-loop-i : goal.invariant-loop-i
invariant-loop-i g l = descend g.L.KeyLevel.below (drop l.i l.levels) l.x l.place ≡ descend g.L.KeyLevel.below l.levels l.x l.fn.top
