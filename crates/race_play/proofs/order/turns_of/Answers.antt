use Rattle.race_play.proofs.Orders.{turn_more}
use Rattle.race_play.proofs.order.turns_of.Goals as goal

pub loop-i-preserved : goal.loop-i-preserved
loop-i-preserved c = turn_more _ _ _ _ _ c.loop-i.invariant c.in_ok-push_turn.ensures
