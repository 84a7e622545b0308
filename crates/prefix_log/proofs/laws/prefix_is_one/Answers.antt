use Rattle.prefix_log.proofs.Journals.{prefix_is_one}
use Rattle.prefix_log.proofs.laws.prefix_is_one.Goals as goal

pub returns : goal.returns
returns c = prefix_is_one
