-- Cells by chunks of 64 places, column by column.
use Rattle.std.specs.Prelude.{◌≡◌, ◌≢◌, ℕ, ◌+◌, ◌-◌, ◌*◌, ◌/◌, ◌%◌, ◌<◌, ◌≤◌, Bool, true, false, if◌then◌else◌, Option, Some, None, List}
use Rattle.std.specs.Prelude.{[], length, take, min, slice_index, slice_index_or}
use Rattle.std.specs.List.{flat_map, range_with_len}
use Rattle.list_facts.specs.Listed.{listed}
use Rattle.table_schema.specs.declared.widths.Widths.{Widths}
use Rattle.onehot_column.specs.Code.{width_of, cells_at}
use Rattle.onehot_column.specs.declared.piece.Piece.{Piece}
use Rattle.scan_chunks.specs.Pieces.{chunks_of}
use Rattle.scan_chunks.specs.Shelf.{Held}
use Rattle.prefix_log.specs.RowLists.{row_cells, rows_long}

-- a column of a chunk: the firsts and the seconds of its cells, row after row, and for how many of each there is room
pub record Halves : Type 0 where
  pub first : List ℕ
  pub second : List ℕ
  pub room : ℕ

-- the column with this number
abbrev pub halves_at : List Halves → ℕ → Halves
halves_at chunk column = slice_index_or chunk column (record { first = []; second = []; room = 0 })

-- the chunk with this number
abbrev pub chunk_at : List (List Halves) → ℕ → List Halves
chunk_at chunks j = slice_index_or chunks j []

-- the firsts, or the seconds, of a place at a column
abbrev pub part_at : (Halves → List ℕ) → Widths → List (List Halves) → ℕ → ℕ → List ℕ
part_at half w chunks place column = row_cells (width_of w column) (half (halves_at (chunk_at chunks (place / 64)) column)) (place % 64)

-- those of all columns
abbrev pub half_at : (Halves → List ℕ) → Widths → List (List Halves) → ℕ → List ℕ
half_at half w chunks place = flat_map (part_at half w chunks place) (range_with_len 0 (w.columns + 1))

pub half_long : (w : Widths) (chunks : List (List Halves)) (place : ℕ)
    → length (half_at (λ h. h.first) w chunks place) ≡ length (half_at (λ h. h.second) w chunks place)
half_long w chunks place = rows_long (width_of w)
    (λ column. (halves_at (chunk_at chunks (place / 64)) column).first)
    (λ column. (halves_at (chunk_at chunks (place / 64)) column).second) (place % 64) 0 (w.columns + 1)

-- the piece of a server at a place
unfoldable pub stored_piece : ℕ → Widths → List (List Halves) → ℕ → Piece
stored_piece server w chunks place = record {
  server = server;
  cells = record {
    first = half_at (λ h. h.first) w chunks place;
    second = half_at (λ h. h.second) w chunks place;
    lengths = half_long w chunks place;
  };
}

-- at each place its piece, if it is marked as filled
unfoldable pub stored_slots : ℕ → Widths → ℕ → List Bool → List (List Halves) → List (Option Piece)
stored_slots server w capacity filled chunks
    = listed capacity (λ (place : ℕ). if slice_index_or filled place false then Some (stored_piece server w chunks place) else None)

-- the firsts, or the seconds, of the first rows at a column
unfoldable pub rows_at : (Halves → List ℕ) → Widths → List (List Halves) → ℕ → ℕ → List ℕ
rows_at half w chunks rows column = flat_map (λ (row : ℕ). part_at half w chunks row column) (range_with_len 0 rows)

-- the first rows of some chunks
abbrev pub first_rows : Widths → ℕ → ℕ → List (List Halves) → Held
first_rows w rows start chunks = record {
  rows = rows;
  start = start;
  columns = w.columns;
  width = width_of w;
  pieces = record { first = rows_at (λ h. h.first) w chunks rows; second = rows_at (λ h. h.second) w chunks rows };
}

-- a chunk has room for `rows` rows
pub record HasRoom (w : Widths) (rows : ℕ) (chunk : List Halves) : Type 0 where
  pub columns : length chunk ≡ w.columns + 1
  pub room : (column : ℕ) → column ≤ w.columns → rows * width_of w column ≤ (halves_at chunk column).room

-- chunks have room for `capacity` places
pub record HavePlaces (w : Widths) (capacity : ℕ) (chunks : List (List Halves)) : Type 0 where
  pub count : length chunks ≡ chunks_of capacity
  pub room : (j : ℕ) → j < length chunks → HasRoom w (min 64 (capacity - 64 * j)) (chunk_at chunks j)

-- a chunk has its first rows
pub record HasRows (w : Widths) (rows : ℕ) (chunk : List Halves) : Type 0 where
  pub columns : length chunk ≡ w.columns + 1
  pub first : (column : ℕ) → column ≤ w.columns → rows * width_of w column ≤ length (halves_at chunk column).first
  pub second : (column : ℕ) → column ≤ w.columns → rows * width_of w column ≤ length (halves_at chunk column).second

-- chunks have their first rows
pub record HaveRows (w : Widths) (rows : ℕ) (chunks : List (List Halves)) : Type 0 where
  pub count : chunks_of rows ≤ length chunks
  pub each : (row : ℕ) → row < rows → HasRows w (row % 64 + 1) (chunk_at chunks (row / 64))

-- a part was written into cells at a place; what was not there yet is 0
pub record IsWritten (start : ℕ) (part old new : List ℕ) : Type 0 where
  pub reach : start + length part ≤ length new
  pub longer : length old ≤ length new
  pub inside : (i : ℕ) → i < length part → slice_index new (start + i) ≡ slice_index part i
  pub before : (i : ℕ) → i < start → slice_index new i ≡ slice_index old i
  pub after : (i : ℕ) → start + length part ≤ i → slice_index new i ≡ slice_index old i

pub record HalvesWritten (start : ℕ) (own next : List ℕ) (old new : Halves) : Type 0 where
  pub first : IsWritten start own old.first new.first
  pub second : IsWritten start next old.second new.second
  pub room : old.room ≤ new.room

-- the cells of a piece, firsts and seconds, were written into a chunk at a row
pub record RowWritten (w : Widths) (row : ℕ) (first second : List ℕ) (old new : List Halves) : Type 0 where
  pub columns : length new ≡ length old
  pub each : (column : ℕ) → column ≤ w.columns
      → HalvesWritten (row * width_of w column) (cells_at w column first) (cells_at w column second) (halves_at old column)
      (halves_at new column)

-- and into chunks at a place
pub record PlaceWritten (w : Widths) (place : ℕ) (first second : List ℕ) (old new : List (List Halves)) : Type 0 where
  pub count : length new ≡ length old
  pub here : RowWritten w (place % 64) first second (chunk_at old (place / 64)) (chunk_at new (place / 64))
  pub others : (j : ℕ) → j ≢ place / 64 → chunk_at new j ≡ chunk_at old j

-- a chunk is a copy of the first rows of another one
pub record IsCopy (w : Widths) (rows : ℕ) (old new : List Halves) : Type 0 where
  pub columns : length new ≡ length old
  pub first : (column : ℕ) → column ≤ w.columns
      → (halves_at new column).first ≡ take (rows * width_of w column) (halves_at old column).first
  pub second : (column : ℕ) → column ≤ w.columns
      → (halves_at new column).second ≡ take (rows * width_of w column) (halves_at old column).second

-- chunks are the first whole ones of others, and a copy of the rows that are left
pub record AreFirst (w : Widths) (rows : ℕ) (old new : List (List Halves)) : Type 0 where
  pub count : length new ≡ chunks_of rows
  pub same : (j : ℕ) → j < rows / 64 → chunk_at new j ≡ chunk_at old j
  pub left : 0 < rows % 64 → IsCopy w (rows % 64) (chunk_at old (rows / 64)) (chunk_at new (rows / 64))

-- how many chunks are shared and no longer written, and all of them
pub record Store : Type 0 where
  pub sealed : ℕ
  pub chunks : List (List Halves)

-- a store of places, those filled below a prefix among others: the rows of these are there, and what is shared is below the prefix
pub record IsStored (w : Widths) (capacity prefix : ℕ) (filled : List Bool) (store : Store) : Type 0 where
  pub marks : length filled ≡ capacity
  pub places : HavePlaces w capacity store.chunks
  pub rows : (place : ℕ) → slice_index_or filled place false ≡ true → HasRows w (place % 64 + 1) (chunk_at store.chunks (place / 64))
  pub shared : 64 * store.sealed ≤ prefix
