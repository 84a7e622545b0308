-- What a row of some columns keeps.
use Rattle.std.specs.Prelude.{◌≡◌, ℕ, ◌^◌, ◌<◌, ◌≤◌, List, [], length, get_or}
use Rattle.table_schema.specs.Limits.{IsValue}
use Rattle.table_schema.specs.declared.schema.Column.{Column}
use Rattle.table_schema.specs.declared.rows.Row.{Row}

abbrev pub no_column : Column
no_column = record { name = []; bits = 0; start = 0; step = 0 }

-- each of the first n buckets is below 2^bits of its column, and the others are 0
abbrev pub Below : List Column → List ℕ → ℕ → Type 0
Below columns buckets n = ((i : ℕ) → i < n → get_or buckets i 0 < 2 ^ (get_or columns i no_column).bits) × ((i : ℕ) → n ≤ i → get_or buckets i 0 ≡ 0)

-- a row of these columns
abbrev pub IsRowOf : List Column → Row → Type 0
IsRowOf columns row = (row.columns ≡ length columns) × IsValue row.value × Below columns row.buckets (length columns)
