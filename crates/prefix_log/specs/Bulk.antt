-- Chunks of three servers that take the pieces of rows.
use Rattle.std.specs.Prelude.{◌≡◌, ℕ, ◌+◌, ◌*◌, ◌/◌, ◌%◌, ◌<◌, ◌≤◌, true, List, All, length, take, drop, slice_index_or, Some}
use Rattle.std.specs.List.{range_with_len}
use Rattle.replicated_share.specs.Share.{share_of}
use Rattle.table_schema.specs.Widths.{Holds}
use Rattle.table_schema.specs.declared.widths.Widths.{Widths}
use Rattle.onehot_column.specs.Piece.{HasWidths, IsPiece}
use Rattle.onehot_column.specs.declared.piece.Piece.{Piece}
use Rattle.prefix_log.specs.Logs.{Log, piece_at}
use Rattle.onehot_column.specs.Code.{cells_at, code_of, width_of}
use Rattle.prefix_log.specs.Chunks.{Halves, HasRoom, HasRows, HavePlaces, Store, chunk_at, halves_at}
use Rattle.prefix_log.specs.RowLists.{row_cells}
use Rattle.prefix_log.specs.declared.bulk.Entry.{Entry}
use Rattle.prefix_log.specs.declared.bulk.Trio.{Trio}

-- at most a chunk of rows of these widths
pub record AreRows (w : Widths) (entries : List Entry) : Type 0 where
  pub few : length entries ≤ 64
  pub held : All (λ (e : Entry). Holds w e.row) entries

-- row r of a chunk is the share of server k of a row, and that of the next server
pub record RowIs (w : Widths) (k : ℕ) (e : Entry) (r : ℕ) (chunk : List Halves) : Type 0 where
  pub first : (column : ℕ) → column ≤ w.columns
      → row_cells (width_of w column) (halves_at chunk column).first r ≡ cells_at w column (share_of k e.seed (code_of w e.row))
  pub second : (column : ℕ) → column ≤ w.columns
      → row_cells (width_of w column) (halves_at chunk column).second r
      ≡ cells_at w column (share_of ((k + 1) % 3) e.seed (code_of w e.row))
  pub there : HasRows w (r + 1) chunk

-- the first n rows of a chunk are the pieces of server k
abbrev pub AreFilled : Widths → ℕ → List Entry → ℕ → List Halves → Type 0
AreFilled w k entries n chunk = (r : ℕ) (d : Entry) → r < n → RowIs w k (slice_index_or entries r d) r chunk

-- three chunks with room for `rows` rows
pub record HaveRoom (w : Widths) (rows : ℕ) (trio : Trio) : Type 0 where
  pub zero : HasRoom w rows trio.zero
  pub one : HasRoom w rows trio.one
  pub two : HasRoom w rows trio.two

-- three chunks after a fill: their room stays, and where it was done their first rows are the pieces
pub record Fills (w : Widths) (entries : List Entry) (old new : Trio) : Type 0 where
  pub room : HaveRoom w (length entries) new
  pub zero : new.done ≡ true → AreFilled w 0 entries (length entries) new.zero
  pub one : new.done ≡ true → AreFilled w 1 entries (length entries) new.one
  pub two : new.done ≡ true → AreFilled w 2 entries (length entries) new.two

-- the entries of chunk j
abbrev pub rows_here : List Entry → ℕ → List Entry
rows_here entries j = take 64 (drop (64 * j) entries)

-- each row is at its place of the chunks, as the piece of server k
abbrev pub HasPieces : Widths → ℕ → List Entry → List (List Halves) → Type 0
HasPieces w k entries chunks = (place : ℕ) (d : Entry) → place < length entries
    → RowIs w k (slice_index_or entries place d) (place % 64) (chunk_at chunks (place / 64))

-- nothing is shared, and there are n places
pub record IsFree (w : Widths) (n : ℕ) (store : Store) : Type 0 where
  pub none : store.sealed ≡ 0
  pub places : HavePlaces w n store.chunks

-- a log of server k whose places took these rows, one after another
pub record TakesRows (w : Widths) (k : ℕ) (entries : List Entry) (log : Log) : Type 0 where
  pub server : log.server ≡ k
  pub widths : log.widths ≡ w
  pub capacity : log.capacity ≡ length entries
  pub journal : log.journal ≡ range_with_len 0 (length entries)
  pub pieces : (place : ℕ) (piece : Piece) (d : Entry) → piece_at log.slots place ≡ Some piece
      → (place < length entries) × IsPiece w (slice_index_or entries place d).row (slice_index_or entries place d).seed k piece
      × HasWidths w piece
