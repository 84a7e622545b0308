-- The code of a row, and its part at a column.
use Rattle.std.specs.Prelude.{ℕ, ◌+◌, ◌^◌, ◌==◌, if◌then◌else◌, List, [], ◌∷◌, take, drop, slice_index, sum_by}
use Rattle.std.specs.List.{flat_map, range_with_len}
use Rattle.list_facts.specs.Listed.{listed}
use Rattle.ring128.specs.Signed.{word_of}
use Rattle.table_schema.specs.declared.rows.Row.{Row}
use Rattle.table_schema.specs.declared.widths.Widths.{Widths}

-- `size` numbers, 1 at a place and 0 elsewhere
abbrev pub one_hot : ℕ → ℕ → List ℕ
one_hot size place = listed size (λ x. if x == place then 1 else 0)

-- how many numbers the code has at a column; the value is column `columns`, of one number
abbrev pub width_of : Widths → ℕ → ℕ
width_of w column = if column == w.columns then 1 else 2 ^ slice_index w.bits column

-- the code of a row at a column: 1 at its bucket and 0 elsewhere; or its value modulo 2 ^ 128
abbrev pub code_at : Widths → ℕ → Row → List ℕ
code_at w column row =
    if column == w.columns then word_of row.value ∷ []
    else one_hot (2 ^ slice_index w.bits column) (slice_index row.buckets column)

-- the whole code: each column in order, and the value
abbrev pub code_of : Widths → Row → List ℕ
code_of w row = flat_map (λ column. code_at w column row) (range_with_len 0 (w.columns + 1))

-- how many numbers stand before a column
abbrev pub start_of : Widths → ℕ → ℕ
start_of w column = sum_by (width_of w) (range_with_len 0 column)

-- the part at a column of a list that is as long as a code
abbrev pub cells_at : Widths → ℕ → List ℕ → List ℕ
cells_at w column cells = take (width_of w column) (drop (start_of w column) cells)
