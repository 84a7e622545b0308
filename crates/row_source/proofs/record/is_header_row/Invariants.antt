use Rattle.std.proofs.Common.{◌≡◌, drop}
use Rattle.csv.specs.Records.{fields_of}
use Rattle.row_source.specs.Rows.{is_header}
use Rattle.row_source.proofs.record.is_header_row.Given as goal

abbrev pub invariant-loop-c : goal.invariant-loop-c
invariant-loop-c l = is_header (drop l.c l.schema) (drop l.c (fields_of l.line)) ≡ is_header l.schema (fields_of l.line)
