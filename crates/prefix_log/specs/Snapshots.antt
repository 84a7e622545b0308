-- What a snapshot holds: the pieces of the first places.
use Rattle.std.specs.Prelude.{◌≡◌, ℕ, ◌+◌, ◌%◌, ◌≤◌, Option, List, length}
use Rattle.std.specs.List.{flat_map}
use Rattle.std.specs.Option.{option_to_list}
use Rattle.prg_chacha.specs.declared.seed.Seed.{Seed}
use Rattle.replicated_share.specs.Share.{share_of}
use Rattle.table_schema.specs.declared.rows.Row.{Row}
use Rattle.table_schema.specs.declared.widths.Widths.{Widths}
use Rattle.onehot_column.specs.Code.{width_of, cells_at, code_of}
use Rattle.onehot_column.specs.declared.piece.Piece.{Piece}
use Rattle.scan_chunks.specs.Shelf.{Held}

-- the pieces in some slots, in order
abbrev pub pieces_in : List (Option Piece) → List Piece
pieces_in slots = flat_map option_to_list slots

-- a server's own shares at a column of some pieces, piece after piece
abbrev pub firsts_of : Widths → List Piece → ℕ → List ℕ
firsts_of w pieces column = flat_map (λ (p : Piece). cells_at w column p.cells.first) pieces

-- and the next server's
abbrev pub seconds_of : Widths → List Piece → ℕ → List ℕ
seconds_of w pieces column = flat_map (λ (p : Piece). cells_at w column p.cells.second) pieces

-- a shelf holds these pieces, one a row, from the first chunk on
pub record HoldsPieces (w : Widths) (pieces : List Piece) (h : Held) : Type 0 where
  pub rows : h.rows ≡ length pieces
  pub start : h.start ≡ 0
  pub columns : h.columns ≡ w.columns
  pub width : (column : ℕ) → column ≤ w.columns → h.width column ≡ width_of w column
  pub first : (column : ℕ) → column ≤ w.columns → h.pieces.first column ≡ firsts_of w pieces column
  pub second : (column : ℕ) → column ≤ w.columns → h.pieces.second column ≡ seconds_of w pieces column

-- the parts at a column of share k of the codes of some rows, each split by its seed, row after row
abbrev pub shares_of : Widths → ℕ → List (Row × Seed) → ℕ → List ℕ
shares_of w k entries column = flat_map (λ (entry : Row × Seed). cells_at w column (share_of k entry.1 (code_of w entry.0))) entries

-- a shelf holds the pieces of these rows at server k, from the first chunk on
pub record KeepsRows (w : Widths) (k : ℕ) (entries : List (Row × Seed)) (h : Held) : Type 0 where
  pub rows : h.rows ≡ length entries
  pub start : h.start ≡ 0
  pub columns : h.columns ≡ w.columns
  pub width : (column : ℕ) → column ≤ w.columns → h.width column ≡ width_of w column
  pub first : (column : ℕ) → column ≤ w.columns → h.pieces.first column ≡ shares_of w k entries column
  pub second : (column : ℕ) → column ≤ w.columns → h.pieces.second column ≡ shares_of w ((k + 1) % 3) entries column
