-- What servers hold of the rows of an order.
use Rattle.std.specs.Prelude.{◌≡◌, ℕ, ◌≤◌, Some, List, All, length, take, slice_get}
use Rattle.onehot_column.specs.Piece.{HasWidths, IsPiece}
use Rattle.onehot_column.specs.declared.piece.Piece.{Piece}
use Rattle.prefix_log.specs.Journal.{HasNoMark, prefix}
use Rattle.prefix_log.specs.Logs.{Log, piece_at}
use Rattle.prefix_log.specs.Snapshots.{HoldsPieces, KeepsRows, pieces_in}
use Rattle.prg_chacha.specs.declared.seed.Seed.{Seed}
use Rattle.scan_chunks.specs.Shelf.{Held}
use Rattle.table_schema.specs.Widths.{Holds}
use Rattle.table_schema.specs.declared.rows.Row.{Row}
use Rattle.table_schema.specs.declared.widths.Widths.{Widths}

-- the piece of server k of the entry at a place of the order
pub record IsShareAt (w : Widths) (k : ℕ) (order : List (Row × Seed)) (place : ℕ) (piece : Piece) : Type 0 where
  pub entry : Row × Seed
  pub there : slice_get order place ≡ Some entry
  pub held : Holds w entry.0
  pub share : IsPiece w entry.0 entry.1 k piece
  pub wide : HasWidths w piece

-- the log of server k, which has pieces of the order alone and retired none
pub record IsServer (k : ℕ) (w : Widths) (most : ℕ) (order : List (Row × Seed)) (log : Log) : Type 0 where
  pub number : log.server ≡ k
  pub widths : log.widths ≡ w
  pub capacity : log.capacity ≡ most
  pub places : HasNoMark log.capacity log.journal
  pub shares : (place : ℕ) (piece : Piece) → piece_at log.slots place ≡ Some piece → IsShareAt w k order place piece

-- a shelf is a snapshot of a log: it holds the pieces of the log's prefix
pub record IsFixOf (h : Held) (log : Log) : Type 0 where
  pub rows : h.rows ≡ prefix log.journal
  pub pieces : HoldsPieces log.widths (pieces_in (take h.rows log.slots)) h

-- a shelf keeps the first n rows of the order, as server k has them
pub record KeepsFirst (w : Widths) (k : ℕ) (order : List (Row × Seed)) (n : ℕ) (h : Held) : Type 0 where
  pub few : n ≤ length order
  pub rows : All (λ (entry : Row × Seed). Holds w entry.0) (take n order)
  pub keeps : KeepsRows w k (take n order) h
