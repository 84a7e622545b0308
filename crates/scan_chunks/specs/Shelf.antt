-- What a shelf holds.
use Rattle.std.specs.Prelude.{◌≡◌, ℕ, ◌+◌, ◌*◌, ◌<◌, ◌≤◌, length}
use Rattle.scan_chunks.specs.Pieces.{Pieces, chunks_of}

-- how many rows, the number of the first chunk, how many columns beside the value's, how wide each is, and the pieces by column;
-- the value's column is the last one
pub record Held : Type 0 where
  pub rows : ℕ
  pub start : ℕ
  pub columns : ℕ
  pub width : ℕ → ℕ
  pub pieces : Pieces

-- a column is as long as the rows are wide, and the value's is one cell wide
pub record IsShelf (h : Held) : Type 0 where
  pub few : h.start + chunks_of h.rows ≤ 1024
  pub first : (column : ℕ) → column ≤ h.columns → length (h.pieces.first column) ≡ h.rows * h.width column
  pub second : (column : ℕ) → column ≤ h.columns → length (h.pieces.second column) ≡ h.rows * h.width column
  pub wide : (column : ℕ) → column ≤ h.columns → 0 < h.width column
  pub value : h.width h.columns ≡ 1
