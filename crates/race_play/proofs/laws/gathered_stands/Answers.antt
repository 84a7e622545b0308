use Rattle.race_play.proofs.Ordering.{gathered_stands}
use Rattle.race_play.proofs.laws.gathered_stands.Goals as goal

pub returns : goal.returns
returns c = gathered_stands
