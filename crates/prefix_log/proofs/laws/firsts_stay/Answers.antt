use Rattle.prefix_log.proofs.Acts.{firsts_stay}
use Rattle.prefix_log.proofs.laws.firsts_stay.Goals as goal

pub returns : goal.returns
returns c = firsts_stay
