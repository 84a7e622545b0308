use Rattle.std.proofs.Common.{◌≡◌, ◌+◌}
use Rattle.std.specs.Prelude.{vec_len, vec_capacity}
use Rattle.onehot_column.specs.Code.{start_of}
use Rattle.onehot_column.proofs.CodeLaws.{codes}
use Rattle.onehot_column.proofs.coding.code.Given as goal

abbrev pub invariant-loop-c : goal.invariant-loop-c
invariant-loop-c l = record {
  cells : l.cells.items ≡ codes l.widths l.row l.c;
  len : vec_len l.cells ≡ start_of l.widths l.c;
  room : vec_capacity l.cells ≡ start_of l.widths (l.widths.columns + 1);
}
