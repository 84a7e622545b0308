use Rattle.std.proofs.Common.{◌≡◌, ◌+◌, ◌<◌, ◌≤◌, All, length}
use Rattle.std.specs.Option.{option_copied}
use Rattle.text_reading.specs.Cut.{pieces_left}
use Rattle.table_schema.specs.Column.{IsColumn}
use Rattle.table_schema.specs.Limits.{most_columns}
use Rattle.table_schema.specs.Schema.{columns_from, schema_of}
use Rattle.table_schema.proofs.read.read_schema.Given as goal

abbrev pub invariant-loop-rest : goal.invariant-loop-rest
invariant-loop-rest l = record {
  reads : columns_from l.columns.items (pieces_left 44 (option_copied l.rest)) ≡ schema_of l.fn.text;
  some : 0 < length l.columns.items + length (pieces_left 44 (option_copied l.rest));
  few : length l.columns.items + length (pieces_left 44 (option_copied l.rest)) ≤ most_columns;
  fit : All IsColumn l.columns.items;
}

abbrev pub decreases-loop-rest : goal.decreases-loop-rest
decreases-loop-rest l = length (pieces_left 44 (option_copied l.rest))
