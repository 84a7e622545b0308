use Rattle.std.proofs.Common.{◌≡◌, ◌<◌, ◌≤◌, ◌*◌, ℕ, take, drop}
use Rattle.std.specs.List.{flat_map}
use Rattle.key_tree.specs.KeyWords.{levels_read, control_at}
use Rattle.key_tree.proofs.key_words.read_words.Given as goal

abbrev pub invariant-loop-i : goal.invariant-loop-i
invariant-loop-i g l = record {
  read : l.levels.items ≡ levels_read g.L.KeyLevel.read g.L.KeyLevel.WIDTH l.words l.i;
  written : ((k : ℕ) → k < l.i → control_at g.L.KeyLevel.WIDTH l.words k ≤ 3)
      → flat_map g.L.KeyLevel.words l.levels.items ≡ take (g.L.KeyLevel.WIDTH * l.i) (drop 2 l.words);
}
