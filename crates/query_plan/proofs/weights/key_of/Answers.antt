use Rattle.std.proofs.Common.{◌≡◌, ◌%◌, ℕ, ap, ◌∙◌}
use Rattle.query_plan.proofs.weights.key_of.Goals as goal

pub returns-clause-odd : goal.returns-clause-odd
returns-clause-odd c = ap (λ (n : ℕ). n % 2) c.loop-j.invariant ∙ c.keys_are_odd.ensures c.args.seed.now c.loop-j.j
