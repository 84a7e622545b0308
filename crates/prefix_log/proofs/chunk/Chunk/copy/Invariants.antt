use Rattle.std.proofs.Common.{◌≡◌, ◌*◌, ◌<◌, ℕ, length, take}
use Rattle.onehot_column.specs.Code.{width_of}
use Rattle.prefix_log.specs.Chunks.{halves_at}
use Rattle.prefix_log.proofs.chunk.Chunk.copy.Given as goal

abbrev pub invariant-loop-c : goal.invariant-loop-c
invariant-loop-c l = record {
  count : length l.columns.items ≡ l.c;
  first : (column : ℕ) → column < l.c → (halves_at l.columns.items column).first ≡ take (l.rows * width_of l.widths column) (halves_at l.self column).first;
  second : (column : ℕ) → column < l.c → (halves_at l.columns.items column).second ≡ take (l.rows * width_of l.widths column) (halves_at l.self column).second;
}
