use Rattle.std.proofs.Common.{◌≡◌, ◌++◌}
use Rattle.ring128.specs.declared.party.Party.TheVariants.{Zero, One}
use Rattle.key_tree.specs.Tree.{start}
use Rattle.compare_keys.specs.Generated.{levels_of, last_of}
use Rattle.compare_keys.proofs.key.generate.Given as goal

abbrev pub invariant-loop-place : goal.invariant-loop-place
invariant-loop-place l = record {
  levels : l.levels.items ++ levels_of l.weight l.place l.a l.total l.zero l.one ≡ levels_of l.weight l.bits l.a 0 (start Zero l.root0) (start One l.root1);
  last : last_of l.weight l.place l.a l.total l.zero l.one ≡ last_of l.weight l.bits l.a 0 (start Zero l.root0) (start One l.root1);
}
