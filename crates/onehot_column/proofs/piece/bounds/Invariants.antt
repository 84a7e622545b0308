use Rattle.std.proofs.Common.{◌≡◌, ◌*◌, ◌≤◌}
use Rattle.onehot_column.specs.Code.{start_of}
use Rattle.onehot_column.proofs.piece.bounds.Given as goal

abbrev pub invariant-loop-b : goal.invariant-loop-b
invariant-loop-b l = record {
  sum : l.start ≡ start_of l.widths l.b-index;
  few : l.start ≤ 256 * l.b-index;
}
