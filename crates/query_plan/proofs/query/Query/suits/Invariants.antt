use Rattle.std.proofs.Common.{ℕ, ◌<◌}
use Rattle.query_plan.specs.Query.{IsPlaced}
use Rattle.query_plan.proofs.query.Query.suits.Given as goal

abbrev pub invariant-loop-i : goal.invariant-loop-i
invariant-loop-i l = (k : ℕ) → k < l.i → IsPlaced l.widths.columns l.widths.bits l.self k
