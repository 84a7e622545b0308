use Rattle.std.proofs.Common.{◌≡◌}
use Rattle.prefix_log.proofs.chunks.Chunks.seal.Given as goal

abbrev pub invariant-loop : goal.invariant-loop
invariant-loop l = record {
  chunks : l.self.chunks ≡ l.fn.self.chunks;
  sealed : l.self.sealed ≡ l.counter;
}
