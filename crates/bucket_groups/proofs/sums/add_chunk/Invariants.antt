use Rattle.std.proofs.Common.{◌≡◌}
use Rattle.bucket_groups.proofs.Adding.{added_to}
use Rattle.bucket_groups.proofs.sums.add_chunk.Given as goal

abbrev pub invariant-loop-i : goal.invariant-loop-i
invariant-loop-i l = record {
  sums : l.sums ≡ added_to l.fn.sums l.first l.second l.near l.far l.i;
}
