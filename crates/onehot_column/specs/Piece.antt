-- A server's piece of a row.
use Rattle.std.specs.Prelude.{ℕ, ◌≡◌, ◌+◌, ◌%◌, length}
use Rattle.prg_chacha.specs.declared.seed.Seed.{Seed}
use Rattle.replicated_share.specs.Share.{share_of}
use Rattle.table_schema.specs.Widths.{code_length, column_bits}
use Rattle.table_schema.specs.declared.rows.Row.{Row}
use Rattle.table_schema.specs.declared.widths.Widths.{Widths}
use Rattle.onehot_column.specs.Code.{code_of}
use Rattle.onehot_column.specs.declared.piece.Piece.{Piece}

-- the piece is as long as the code of a row of these widths
abbrev pub HasWidths : Widths → Piece → Type 0
HasWidths w p = length p.cells.first ≡ code_length (column_bits w)

-- the piece of server k under a seed: share k of the row's code, and share k + 1
pub record IsPiece (w : Widths) (row : Row) (seed : Seed) (k : ℕ) (p : Piece) : Type 0 where
  pub server : p.server ≡ k
  pub first : p.cells.first ≡ share_of k seed (code_of w row)
  pub second : p.cells.second ≡ share_of ((k + 1) % 3) seed (code_of w row)
