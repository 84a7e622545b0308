use Rattle.race_play.proofs.Orders.{push_no, push_yes}
use Rattle.race_play.proofs.order.push_turn.Goals as goal

pub returns-then-i-writers : goal.returns-then-i-writers
returns-then-i-writers c = push_no _ _ _ _ c.if-i-writers.true

pub returns : goal.returns
returns c = push_yes _ _ _ _ _ c.if-i-writers.false c.in_ok-push.ensures.items
