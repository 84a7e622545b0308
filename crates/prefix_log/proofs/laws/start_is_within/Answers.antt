use Rattle.prefix_log.proofs.Marked.{start_is_within}
use Rattle.prefix_log.proofs.laws.start_is_within.Goals as goal

pub returns : goal.returns
returns c = start_is_within
