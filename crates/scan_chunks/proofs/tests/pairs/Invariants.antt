use Rattle.std.proofs.Common.{◌≡◌, ◌*◌, length}
use Rattle.scan_chunks.proofs.tests.pairs.Given as goal

abbrev pub invariant-loop-r : goal.invariant-loop-r
invariant-loop-r l = record { first : length l.first.items ≡ 2 * l.r; second : length l.second.items ≡ 2 * l.r }
