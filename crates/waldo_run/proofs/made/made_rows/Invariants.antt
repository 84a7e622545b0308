use Rattle.std.proofs.Common.{◌≡◌, All}
use Rattle.std.specs.Prelude.{vec_len, vec_capacity}
use Rattle.table_schema.specs.Widths.{Holds, column_bits}
use Rattle.waldo_run.specs.Made.{made_rows}
use Rattle.waldo_run.proofs.made.made_rows.Given as goal

abbrev pub invariant-loop-i : goal.invariant-loop-i
invariant-loop-i l = record {
  items : l.rows.items ≡ made_rows (column_bits l.widths) l.number l.i;
  held : All (Holds l.widths) l.rows.items;
  len : vec_len l.rows ≡ l.i;
  capacity : vec_capacity l.rows ≡ l.count;
}
