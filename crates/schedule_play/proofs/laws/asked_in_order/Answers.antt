use Rattle.schedule_play.proofs.AskedQueries.{asked_in_order}
use Rattle.schedule_play.proofs.laws.asked_in_order.Goals as goal

pub returns : goal.returns
returns c = asked_in_order
