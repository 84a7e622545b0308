use Rattle.std.proofs.Common.{◌≡◌, ◌+◌, ◌++◌, take, length, vec_len, vec_capacity}
use Rattle.row_tree.specs.Running.{GrownFrom, cells_in}
use Rattle.row_tree.proofs.running.run_on.Given as goal

abbrev pub invariant-loop-cell : goal.invariant-loop-cell
invariant-loop-cell l = record {
  cells : cells_in l.width l.sums.items ≡ cells_in l.width l.fn.sums.items ++ take l.cell-index l.cells;
  long : vec_len l.sums ≡ vec_len l.fn.sums + l.cell-index;
  grown : GrownFrom l.fn.sums.items l.sums.items;
  room : vec_capacity l.sums ≡ vec_capacity l.fn.sums;
}
