-- How far the reading of rows has come.
use Rattle.std.specs.Prelude.{ℕ, ◌+◌, List, [], ◌∷◌, length, Option, Some, None, Result, Err}
use Rattle.table_schema.specs.declared.schema.Column.{Column}
use Rattle.table_schema.specs.declared.rows.Row.{Row}
use Rattle.report_lines.specs.declared.lines.RowWhy.{RowWhy}
use Rattle.row_source.specs.declared.faults.RowFault.{RowFault}
use Rattle.row_source.specs.declared.faults.RowFault.TheVariants as fault
use Rattle.row_source.specs.Rows.{rows_from}

-- what the records that are left come to, behind these rows and the first bad record
abbrev pub outcome : List Column → List Row → Option RowWhy → List (List (List ℕ)) → Result (List Row) RowFault
outcome columns rows None rest = rows_from columns rows rest
outcome columns rows (Some why) rest = Err (fault.BadRecord (length rows + 1) why)

-- the records after the first
abbrev pub rest_of : List (List (List ℕ)) → List (List (List ℕ))
rest_of [] = []
rest_of (r ∷ rs) = rs
