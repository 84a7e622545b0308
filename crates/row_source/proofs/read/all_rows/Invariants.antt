use Rattle.std.proofs.Common.{◌≡◌, ◌+◌, ◌≤◌, [], length}
use Rattle.row_source.specs.Left.{Stands, left}
use Rattle.row_source.specs.Progress.{outcome, rest_of}
use Rattle.row_source.specs.Rows.{input_records, rows_from}
use Rattle.row_source.proofs.read.all_rows.Given as goal

abbrev pub invariant-records : goal.invariant-records
invariant-records l = record {
  stands : Stands l.reader;
  reads : outcome l.schema l.rows.items l.bad (left l.reader) ≡ rows_from l.schema [] (rest_of (input_records l.fn.bytes));
  counted : l.count + length (left l.reader) ≡ length (rest_of (input_records l.fn.bytes));
  few : l.count ≤ l.capacity;
}

abbrev pub decreases-records : goal.decreases-records
decreases-records l = length (left l.reader)
