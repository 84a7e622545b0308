-- The limits of a table.
use Rattle.std.specs.Prelude.{◌≡◌, ℕ, ◌<◌, ◌≤◌, List, get_or, ℤ, pos, negsuc, ◌≤ℤ◌}

-- the most columns of a table
abbrev pub most_columns : ℕ
most_columns = 6

-- the most rows of a table
abbrev pub most_rows : ℕ
most_rows = 65536

-- the most cells of a table
abbrev pub most_cells : ℕ
most_cells = 4194304

-- a value that a row may have: of a size below 2 ^ 32
abbrev pub IsValue : ℤ → Type 0
IsValue value = (negsuc 4294967294 ≤ℤ value) × (value ≤ℤ pos 4294967295)

-- the widths of `columns` columns: 1 to 8 bits for each, and 0 past them
abbrev pub AreWidths : ℕ → List ℕ → Type 0
AreWidths columns bits = (0 < columns) × (columns ≤ most_columns)
    × ((i : ℕ) → i < columns → (0 < get_or bits i 0) × (get_or bits i 0 ≤ 8))
    × ((i : ℕ) → columns ≤ i → get_or bits i 0 ≡ 0)
