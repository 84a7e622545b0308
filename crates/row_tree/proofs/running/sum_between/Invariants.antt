use Rattle.std.proofs.Common.{◌≡◌}
use Rattle.list_facts.specs.Listed.{listed}
use Rattle.ring128.specs.Ring.{minus}
use Rattle.row_tree.specs.Running.{before_of}
use Rattle.row_tree.proofs.running.sum_between.Given as goal

abbrev pub invariant-loop-b : goal.invariant-loop-b
invariant-loop-b l = record {
  words : l.words.items ≡ listed l.b (λ b. minus (before_of l.width l.sums l.to b) (before_of l.width l.sums l.from b));
}
