-- How many cells a table of some widths takes, and which rows are of these widths.
use Rattle.std.specs.Prelude.{◌≡◌, ℕ, ◌+◌, ◌*◌, ◌/◌, ◌^◌, ◌<◌, ◌≤◌, ◌&&◌, Bool, List, get_or, take, min, nat_le, sum_by}
use Rattle.table_schema.specs.Limits.{IsValue, most_cells, most_rows}
use Rattle.table_schema.specs.declared.rows.Row.{Row}
use Rattle.table_schema.specs.declared.widths.Widths.{Widths}

-- the bits of each column, in order
abbrev pub column_bits : Widths → List ℕ
column_bits w = take w.columns w.bits

-- the numbers of a row's code: 2^bits for each column, and the value
abbrev pub code_length : List ℕ → ℕ
code_length bits = sum_by (λ b. 2 ^ b) bits + 1

-- the cells of a table of this capacity
abbrev pub cells_of : List ℕ → ℕ → ℕ
cells_of bits capacity = capacity * code_length bits

-- a table of this capacity is within the limits
abbrev pub Fits : List ℕ → ℕ → Type 0
Fits bits capacity = (1 ≤ capacity) × (capacity ≤ most_rows) × (cells_of bits capacity ≤ most_cells)

-- the test of it
abbrev pub fits_in : List ℕ → ℕ → Bool
fits_in bits capacity = nat_le 1 capacity && nat_le capacity most_rows && nat_le (cells_of bits capacity) most_cells

-- the greatest capacity that fits
abbrev pub largest_in : List ℕ → ℕ
largest_in bits = min most_rows (most_cells / code_length bits)

-- a row of these widths: as many columns, a value within the limits, and each bucket below 2^bits, so 0 past the columns
pub record Holds (w : Widths) (row : Row) : Type 0 where
  pub columns : row.columns ≡ w.columns
  pub value : IsValue row.value
  pub buckets : (i : ℕ) → i < 6 → get_or row.buckets i 0 < 2 ^ get_or w.bits i 0
