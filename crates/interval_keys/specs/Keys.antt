-- Keys of an interval.
use Rattle.std.specs.Prelude.{ℕ}
use Rattle.key_tree.specs.Keys as tree
use Rattle.compare_keys.specs.declared.level.CompareLevel.{CompareLevel}

-- two keys of "at most a": one whose end is the high end, and one whose end is below the low end
pub record Key : Type 0 where
  pub upper : tree.Key CompareLevel
  pub lower : tree.Key CompareLevel
