-- What a text means that asks for a total by the buckets of a column, or its fault.
use Rattle.std.specs.Prelude.{ℕ, ◌-◌, List, length, Result, Ok, Err, nat_le, codes, slice_index_or, take}
use Rattle.std.specs.Option.{ok_or}
use Rattle.std.specs.Str.{bytes_eq}
use Rattle.text_reading.specs.Cut.{pieces}
use Rattle.text_reading.specs.Reading.{◌>>=◌, guard}
use Rattle.table_schema.specs.declared.schema.Column.{Column}
use Rattle.query_plan.specs.declared.query.Query.{Query}
use Rattle.query_plan.specs.declared.query.QueryFault.{QueryFault}
use Rattle.query_plan.specs.declared.group.GroupQuery.{GroupQuery}
use Rattle.query_plan.specs.declared.group.GroupFault.{GroupFault}
use Rattle.query_plan.specs.declared.group.GroupFault.TheVariants as fault
use Rattle.query_plan.specs.Reading.{column_named, query_of_pieces}

-- a query by a column, or the query's fault
abbrev pub by_column : ℕ → Result Query QueryFault → Result GroupQuery GroupFault
by_column c (Ok q) = Ok (record { query = q; column = c })
by_column c (Err why) = Err (fault.Query why)

-- of a text's pieces: the last is a column's name, the one before it is `by`, and those before are a query
unfoldable pub group_of_pieces : List Column → List (List ℕ) → Result GroupQuery GroupFault
group_of_pieces columns ps =
    guard (nat_le 2 (length ps)) fault.By >>= λ _.
    guard (bytes_eq (slice_index_or ps (length ps - 2) (codes "")) (codes "by")) fault.By >>= λ _.
    ok_or (column_named (slice_index_or ps (length ps - 1) (codes "")) columns) fault.By >>= λ c.
    by_column c (query_of_pieces columns (take (length ps - 2) ps))

abbrev pub group_of : List Column → List ℕ → Result GroupQuery GroupFault
group_of columns text = group_of_pieces columns (pieces 32 text)
