use Rattle.std.proofs.Common.{◌≡◌, ◌*◌, ◌<◌, ◌≤◌, ℕ, length}
use Rattle.onehot_column.specs.Code.{width_of}
use Rattle.prefix_log.specs.Chunks.{halves_at}
use Rattle.prefix_log.proofs.chunk.Chunk.new.Given as goal

abbrev pub invariant-loop-c : goal.invariant-loop-c
invariant-loop-c l = record {
  count : length l.columns.items ≡ l.c;
  room : (column : ℕ) → column < l.c → l.rows * width_of l.widths column ≤ (halves_at l.columns.items column).room;
}
