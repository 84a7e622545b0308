use Rattle.std.proofs.Common.{◌≡◌, drop, length}
use Rattle.csv.specs.Records.{fields_of}
use Rattle.row_source.specs.Rows.{row_from, row_of}
use Rattle.row_source.proofs.record.row_in.Given as goal

abbrev pub invariant-loop-c : goal.invariant-loop-c
invariant-loop-c l = record {
  size : length l.buckets ≡ 6;
  reads : row_from (drop l.c l.schema) l.c l.buckets (drop l.c (fields_of l.line)) ≡ row_of l.schema (fields_of l.line);
}
