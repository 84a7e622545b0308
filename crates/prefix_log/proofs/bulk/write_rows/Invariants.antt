use Rattle.std.proofs.Common.{length}
use Rattle.prefix_log.specs.Bulk.{AreFilled}
use Rattle.prefix_log.specs.Chunks.{HasRoom}
use Rattle.prefix_log.proofs.bulk.write_rows.Given as goal

abbrev pub invariant-loop-i : goal.invariant-loop-i
invariant-loop-i l = record {
  zero_room : HasRoom l.widths (length l.entries) l.zero;
  one_room : HasRoom l.widths (length l.entries) l.one;
  two_room : HasRoom l.widths (length l.entries) l.two;
  zero_rows : AreFilled l.widths 0 l.entries l.i l.zero;
  one_rows : AreFilled l.widths 1 l.entries l.i l.one;
  two_rows : AreFilled l.widths 2 l.entries l.i l.two;
}
