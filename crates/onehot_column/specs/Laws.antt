-- What the parts of codes and of pieces are.
use Rattle.std.specs.Prelude.{ℕ, ◌≡◌, ◌≤◌, ◌+◌, ◌-◌, ◌%◌, List, [], ◌∷◌, length, slice_index}
use Rattle.prg_chacha.specs.declared.seed.Seed.{Seed}
use Rattle.replicated_share.specs.Share.{share_of, AreShares}
use Rattle.table_schema.specs.Widths.{code_length, column_bits}
use Rattle.table_schema.specs.declared.rows.Row.{Row}
use Rattle.table_schema.specs.declared.widths.Widths.{Widths}
use Rattle.onehot_column.specs.Code.{code_at, code_of, cells_at}

-- the part of a row's code at a column is the code at that column
abbrev pub CodeParts : Type 0
CodeParts =
    (w : Widths) (row : Row) (column : ℕ) → column ≤ w.columns
    → cells_at w column (code_of w row) ≡ code_at w column row

-- at each column the pieces of a row share the code at that column
abbrev pub PiecesShare : Type 0
PiecesShare =
    (w : Widths) (row : Row) (seed : Seed) (column : ℕ) → column ≤ w.columns
    → AreShares (λ k. cells_at w column (share_of k seed (code_of w row)))
    (λ k. cells_at w column (share_of ((k + 1) % 3) seed (code_of w row))) (code_at w column row)

-- the part of a code at the value's column is its last number
abbrev pub ValueIsLast : Type 0
ValueIsLast = (w : Widths) (cells : List ℕ) → length cells ≡ code_length (column_bits w)
    → cells_at w w.columns cells ≡ slice_index cells (length cells - 1) ∷ []
