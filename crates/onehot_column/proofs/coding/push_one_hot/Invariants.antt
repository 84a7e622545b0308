use Rattle.std.proofs.Common.{◌≡◌, ◌+◌, ◌++◌}
use Rattle.std.specs.Prelude.{vec_len, vec_capacity}
use Rattle.onehot_column.specs.Code.{one_hot}
use Rattle.onehot_column.proofs.coding.push_one_hot.Given as goal

abbrev pub invariant-loop-x : goal.invariant-loop-x
invariant-loop-x l = record {
  items : l.cells.items ≡ l.fn.cells.items ++ one_hot l.x l.place;
  len : vec_len l.cells ≡ vec_len l.fn.cells + l.x;
  room : vec_capacity l.cells ≡ vec_capacity l.fn.cells;
}
