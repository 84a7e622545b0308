use Rattle.std.proofs.Common.{◌≡◌, ◌*◌, ◌<◌, ◌≤◌, ℕ, length}
use Rattle.onehot_column.specs.Code.{width_of, cells_at}
use Rattle.prefix_log.specs.Chunks.{HalvesWritten, halves_at}
use Rattle.prefix_log.proofs.chunk.write_row.Given as goal

abbrev pub invariant-loop-c : goal.invariant-loop-c
invariant-loop-c l = record {
  count : length l.columns.items ≡ length l.fn.columns.items;
  done : (column : ℕ) → column < l.c → HalvesWritten (l.row * width_of l.widths column) (cells_at l.widths column l.piece.cells.first) (cells_at l.widths column l.piece.cells.second)
      (halves_at l.fn.columns.items column) (halves_at l.columns.items column);
  rest : (column : ℕ) → l.c ≤ column → halves_at l.columns.items column ≡ halves_at l.fn.columns.items column;
}
