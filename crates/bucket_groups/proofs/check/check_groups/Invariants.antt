use Rattle.std.proofs.Common.{◌≡◌, length, get_or}
use Rattle.std.specs.Prelude.{vec_len, vec_capacity}
use Rattle.list_facts.specs.Listed.{listed}
use Rattle.weighted_check.specs.Check.{checked}
use Rattle.bucket_groups.specs.Check.{answer_of}
use Rattle.bucket_groups.proofs.check.check_groups.Given as goal

abbrev pub invariant-loop-b : goal.invariant-loop-b
invariant-loop-b l = record {
  items : l.items.items ≡ listed l.b (λ b. answer_of (checked (get_or l.totals.total b 0) (get_or l.totals.weighted b 0) l.key));
  len : vec_len l.items ≡ l.b;
  room : vec_capacity l.items ≡ length l.totals.total;
}
