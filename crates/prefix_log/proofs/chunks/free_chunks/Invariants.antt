use Rattle.std.proofs.Common.{◌≡◌, ◌-◌, ◌*◌, ◌<◌, ℕ, [], length, get_or, min}
use Rattle.prefix_log.specs.Chunks.{HasRoom}
use Rattle.prefix_log.proofs.chunks.free_chunks.Given as goal

abbrev pub invariant-loop-c : goal.invariant-loop-c
invariant-loop-c l = record {
  count : length l.chunks.items ≡ l.c;
  room : (k : ℕ) → k < l.c → HasRoom l.widths (min 64 (l.capacity - 64 * k)) (get_or l.chunks.items k []);
}
