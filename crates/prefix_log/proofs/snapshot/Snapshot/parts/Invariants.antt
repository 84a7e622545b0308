use Rattle.std.proofs.Common.{◌≡◌, ◌+◌, [], All, length, map}
use Rattle.std.specs.Arc.{arc_value}
use Rattle.prefix_log.specs.Chunks.{first_rows}
use Rattle.prefix_log.specs.Starts.{Follow}
use Rattle.prefix_log.specs.declared.snapshot.Snapshot.{Snapshot}
use Rattle.prefix_log.proofs.Parts.{PartsBelow, left_after}
use Rattle.prefix_log.proofs.snapshot.Snapshot.parts.Given as goal

abbrev pub invariant-loop-worker : goal.invariant-loop-worker
invariant-loop-worker l = record {
  so_far : PartsBelow l.chunks l.count l.low (first_rows l.self.rows.widths l.self.rows.count l.self.rows.start (map arc_value l.self.rows.chunks.items))
      (map (λ (s : Snapshot). first_rows s.rows.widths s.rows.count s.rows.start (map arc_value s.rows.chunks.items)) l.parts.items);
  starts : Follow (λ (s : Snapshot). first_rows s.rows.widths s.rows.count s.rows.start (map arc_value s.rows.chunks.items)) l.self.rows.place l.parts.items;
  visits : All (λ (s : Snapshot). s.visits.items ≡ []) l.parts.items;
  made : length l.parts.items ≡ l.worker;
  left : l.low + left_after l.count l.least l.longer l.worker ≡ l.chunks;
}
