use Rattle.std.proofs.Common.{◌≡◌, ◌+◌, ◌≤◌, drop, length}
use Rattle.text_reading.specs.Cut.{pieces}
use Rattle.text_reading.proofs.cuts.count_pieces.Given as goal

abbrev pub invariant-loop-b : goal.invariant-loop-b
invariant-loop-b l = record {
  few : l.marks ≤ l.b-index;
  rest : l.marks + length (pieces l.mark (drop l.b-index l.bytes)) ≡ length (pieces l.mark l.bytes);
}
