use Rattle.std.proofs.Common.{◌≡◌}
use Rattle.race_play.specs.Turns.{turns}
use Rattle.race_play.proofs.order.turns_of.Given as goal

abbrev pub invariant-loop-i : goal.invariant-loop-i
invariant-loop-i l = l.list.items ≡ turns l.writer l.writers l.i
