use Rattle.std.proofs.Common.{◌≡◌, ◌++◌}
use Rattle.ring128.specs.declared.party.Party.TheVariants.{Zero, One}
use Rattle.key_tree.specs.Tree.{start}
use Rattle.point_keys.specs.Points.{levels_of, last_of}
use Rattle.point_keys.proofs.key.generate.Given as goal

abbrev pub invariant-loop-place : goal.invariant-loop-place
invariant-loop-place l = record {
  levels : l.levels.items ++ levels_of l.place l.a l.zero l.one ≡ levels_of l.bits l.a (start Zero l.root0) (start One l.root1);
  last : last_of l.weight l.place l.a l.zero l.one ≡ last_of l.weight l.bits l.a (start Zero l.root0) (start One l.root1);
}
