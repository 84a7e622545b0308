use Rattle.std.proofs.Common.{◌≡◌, ◌++◌, take, drop}
use Rattle.text_reading.specs.Cut.{cut_at}
use Rattle.text_reading.proofs.cuts.cut.Given as goal

abbrev pub invariant-loop-i : goal.invariant-loop-i
invariant-loop-i l = record {
  front : (cut_at l.mark l.bytes).0 ≡ take l.i l.bytes ++ (cut_at l.mark (drop l.i l.bytes)).0;
  after : (cut_at l.mark l.bytes).1 ≡ (cut_at l.mark (drop l.i l.bytes)).1;
}
