use Rattle.std.proofs.Common.{length}
use Rattle.key_tree.proofs.key_level.+write_values.Given as goal

abbrev pub decreases-write_values : goal.decreases-write_values
decreases-write_values g l = length l.levels.now
