use Rattle.std.proofs.Common.{◌≡◌, drop}
use Rattle.table_schema.specs.Schema.{has_name}
use Rattle.table_schema.proofs.read.is_taken.Given as goal

abbrev pub invariant-loop-column : goal.invariant-loop-column
invariant-loop-column l = has_name l.name (drop l.column-index l.columns) ≡ has_name l.name l.columns
