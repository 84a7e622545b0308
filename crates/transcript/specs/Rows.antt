-- Rows at three servers.
use Rattle.std.specs.Prelude.{ℕ, ◌+◌, ◌%◌, ◌≤◌, List, All}
use Rattle.std.specs.List.{flat_map}
use Rattle.prg_chacha.specs.declared.seed.Seed.{Seed}
use Rattle.replicated_share.specs.Share.{share_of, AreShares}
use Rattle.scan_chunks.specs.Pieces.{Pieces}
use Rattle.table_schema.specs.declared.rows.Row.{Row}
use Rattle.table_schema.specs.declared.widths.Widths.{Widths}
use Rattle.table_schema.specs.Widths.{Holds}
use Rattle.onehot_column.specs.Code.{code_at, code_of, cells_at}

-- the servers hold these rows: at each column, and at the value's, which is column `columns`, they share the codes of the rows
pub record HoldRows (w : Widths) (rows : List Row) (pieces : ℕ → Pieces) : Type 0 where
  pub held : All (Holds w) rows
  pub shared : (column : ℕ) → column ≤ w.columns
      → AreShares (λ k. (pieces k).first column) (λ k. (pieces k).second column) (flat_map (code_at w column) rows)

-- what server k holds of rows that were split by seeds: at each column the parts of share k and of share k + 1, row after row
abbrev pub cells_over : Widths → ℕ → List (Row × Seed) → ℕ → List ℕ
cells_over w k entries column = flat_map (λ (entry : Row × Seed). cells_at w column (share_of k entry.1 (code_of w entry.0))) entries

abbrev pub pieces_over : Widths → List (Row × Seed) → ℕ → Pieces
pieces_over w entries k = record { first = cells_over w k entries; second = cells_over w ((k + 1) % 3) entries }
