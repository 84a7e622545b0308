-- Rows of a shelf: the first of them, and parts of them.
use Rattle.std.specs.Prelude.{◌≡◌, ℕ, ◌+◌, ◌-◌, ◌*◌, ◌/◌, ◌≤◌, List, take, drop, min}
use Rattle.scan_chunks.specs.Pieces.{chunks_of}
use Rattle.scan_chunks.specs.Shelf.{Held}

-- the cells of the rows from one to below another
abbrev pub cells_between : ℕ → ℕ → ℕ → List ℕ → List ℕ
cells_between width low high cells = take ((high - low) * width) (drop (low * width) cells)

-- a shelf keeps the rows from one to below another, and none where the other is not above it
pub record IsCut (low high : ℕ) (old new : Held) : Type 0 where
  pub rows : new.rows ≡ high - low
  pub start : new.start ≡ old.start
  pub columns : new.columns ≡ old.columns
  pub width : (column : ℕ) → column ≤ old.columns → new.width column ≡ old.width column
  pub first : (column : ℕ) → column ≤ old.columns
      → new.pieces.first column ≡ cells_between (old.width column) low high (old.pieces.first column)
  pub second : (column : ℕ) → column ≤ old.columns
      → new.pieces.second column ≡ cells_between (old.width column) low high (old.pieces.second column)

-- how many of `rows` rows the first chunks have
abbrev pub rows_before : ℕ → ℕ → ℕ
rows_before rows chunk = min rows (64 * chunk)

-- a shelf holds the chunks from one to below another of a whole one, counted from 0
pub record IsPart (low high : ℕ) (whole part : Held) : Type 0 where
  pub rows : part.rows ≡ rows_before whole.rows high - rows_before whole.rows low
  pub start : part.start ≡ whole.start + low
  pub columns : part.columns ≡ whole.columns
  pub width : (column : ℕ) → column ≤ whole.columns → part.width column ≡ whole.width column
  pub first : (column : ℕ) → column ≤ whole.columns
      → part.pieces.first column ≡ cells_between (whole.width column) (rows_before whole.rows low) (rows_before whole.rows high)
      (whole.pieces.first column)
  pub second : (column : ℕ) → column ≤ whole.columns
      → part.pieces.second column ≡ cells_between (whole.width column) (rows_before whole.rows low) (rows_before whole.rows high)
      (whole.pieces.second column)

-- a part has an even share of the chunks: as many as the others, or one more
pub record IsEven (chunks workers : ℕ) (h : Held) : Type 0 where
  pub least : chunks / workers ≤ chunks_of h.rows
  pub most : chunks_of h.rows ≤ chunks / workers + 1
