use Rattle.std.proofs.Common.{◌∙◌}
use Rattle.std.proofs.lemmas.List.{length-set}
use Rattle.race_play.proofs.Orders.{fill_more}
use Rattle.race_play.proofs.order.fill.Goals as goal

pub loop-k-preserved : goal.loop-k-preserved
loop-k-preserved c = record {
  done = fill_more _ _ _ _ _ c.requires.long c.loop-k-test.true c.loop-k.invariant.done;
  long = length-set _ _ _ ∙ c.loop-k.invariant.long;
}
