use Rattle.std.proofs.Common.{◌≡◌, ℕ, ◌<◌, ◌≤◌, get_or}
use Rattle.ring128.specs.Ring.{plus}
use Rattle.share_product.specs.Product.{local_of}
use Rattle.bucket_groups.proofs.sums.add_row.Given as goal

abbrev pub invariant-loop-b : goal.invariant-loop-b
invariant-loop-b l = record {
  added : (k : ℕ) → k < l.b → get_or l.to k 0 ≡ plus (get_or l.fn.to k 0) (local_of l.by.first l.by.second (get_or l.first k 0) (get_or l.second k 0));
  left : (k : ℕ) → l.b ≤ k → get_or l.to k 0 ≡ get_or l.fn.to k 0;
}
