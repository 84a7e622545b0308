use Rattle.std.proofs.Common.{◌≡◌}
use Rattle.prefix_log.proofs.tests.fill.Given as goal

abbrev pub invariant-loop-n : goal.invariant-loop-n
invariant-loop-n g l = record {
  server : l.log.server ≡ 0;
  widths : l.log.widths ≡ l.widths;
  capacity : l.log.capacity ≡ l.fn.log.capacity;
}
