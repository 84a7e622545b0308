use Rattle.schedule_play.proofs.AskedPlain.{asked_plainly}
use Rattle.schedule_play.proofs.laws.asked_plainly.Goals as goal

pub returns : goal.returns
returns c = asked_plainly c.plain_is_small.ensures
