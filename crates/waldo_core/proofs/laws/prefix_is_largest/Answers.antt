use Rattle.prefix_log.proofs.Prefixes.{prefix_is_largest}
use Rattle.waldo_core.proofs.laws.prefix_is_largest.Goals as goal

pub returns : goal.returns
returns c = prefix_is_largest
