-- What columns keep, and the bucket of a raw number.
use Rattle.std.specs.Prelude.{ℕ, ◌-◌, ◌^◌, ◌/◌, ◌<◌, ◌≤◌, ◌&&◌, List, All}
use Rattle.std.specs.Prelude.{length, Option, Some, None, if◌then◌else◌, nat_lt, nat_le, slice_get}
use Rattle.std.specs.Option.{option_and_then}
use Rattle.table_schema.specs.Limits.{most_columns}
use Rattle.table_schema.specs.declared.schema.Column.{Column}

-- a column has 1 to 8 bits, and a step
abbrev pub IsColumn : Column → Type 0
IsColumn c = (0 < c.bits) × (c.bits ≤ 8) × (0 < c.step)

-- the columns of a table
abbrev pub AreColumns : List Column → Type 0
AreColumns columns = (0 < length columns) × (length columns ≤ most_columns) × All IsColumn columns

-- the bucket of a raw number in a column: the whole steps above its start, where they fit its bits
abbrev pub bucket_of : Column → ℕ → Option ℕ
bucket_of c raw = if nat_le c.start raw && nat_lt ((raw - c.start) / c.step) (2 ^ c.bits) then Some ((raw - c.start) / c.step) else None

-- the bucket of a raw number in the column with this place
abbrev pub bucket_at : List Column → ℕ → ℕ → Option ℕ
bucket_at columns c raw = option_and_then (λ k. bucket_of k raw) (slice_get columns c)
