use Rattle.std.proofs.Common.{◌≡◌, ◌++◌}
use Rattle.list_facts.specs.Listed.{listed}
use Rattle.visit_trace.proofs.ahead.add_products.Given as goal

abbrev pub invariant-loop-i : goal.invariant-loop-i
invariant-loop-i l = l.lengths.items ≡ l.fn.lengths.items ++ listed l._i (λ i. l.sizes.rows)
