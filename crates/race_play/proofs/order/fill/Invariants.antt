use Rattle.std.proofs.Common.{◌≡◌, length, take}
use Rattle.race_play.specs.Filled.{filled}
use Rattle.race_play.proofs.order.fill.Given as goal

abbrev pub invariant-loop-k : goal.invariant-loop-k
invariant-loop-k l = record {
  done : l.printed.items ≡ filled l.initial.printed.items (take l.k l.rows) (take l.k l.places);
  long : length l.printed.items ≡ length l.initial.printed.items;
}
