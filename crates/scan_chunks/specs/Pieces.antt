-- What a server holds of rows.
use Rattle.std.specs.Prelude.{ℕ, ◌+◌, ◌*◌, ◌/◌, List, take, drop}

-- by column, the two shares of each cell, row after row
pub record Pieces : Type 0 where
  pub first : ℕ → List ℕ
  pub second : ℕ → List ℕ

-- row i of a column of this width
abbrev pub row_of : ℕ → ℕ → List ℕ → List ℕ
row_of width i cells = take width (drop (i * width) cells)

-- rows 64c up to at most 64c + 63 of a column of this width
abbrev pub chunk_of : ℕ → ℕ → List ℕ → List ℕ
chunk_of width c cells = take (64 * width) (drop (64 * width * c) cells)

-- how many chunks `n` rows fill
abbrev pub chunks_of : ℕ → ℕ
chunks_of n = (n + 63) / 64
