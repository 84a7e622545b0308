-- The columns of a shelf in memory.
use Rattle.std.specs.Prelude.{ℕ, ◌-◌, List, [], length, slice_index_or}
use Rattle.scan_chunks.specs.declared.column.Column.{Column}
use Rattle.scan_chunks.specs.Shelf.{Held}

-- the column with this number
abbrev pub column_at : List Column → ℕ → Column
column_at columns k = slice_index_or columns k (record { width = 0; first = []; second = [] })

-- `rows` rows in these columns, the last of which is the value's
abbrev pub held_of : ℕ → ℕ → List Column → Held
held_of rows start columns = record {
  rows = rows;
  start = start;
  columns = length columns - 1;
  width = λ (k : ℕ). (column_at columns k).width;
  pieces = record { first = λ (k : ℕ). (column_at columns k).first; second = λ (k : ℕ). (column_at columns k).second };
}
