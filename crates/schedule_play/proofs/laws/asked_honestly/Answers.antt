use Rattle.schedule_play.proofs.AskedHonest.{asked_honestly}
use Rattle.schedule_play.proofs.laws.asked_honestly.Goals as goal

pub returns : goal.returns
returns c = asked_honestly c.plain_is_small.ensures c.asked_in_order.ensures
