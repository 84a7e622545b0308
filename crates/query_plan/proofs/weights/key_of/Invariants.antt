use Rattle.std.proofs.Common.{◌≡◌}
use Rattle.query_plan.specs.Seeds.{weights_of}
use Rattle.query_plan.specs.Views.{key_from}
use Rattle.query_plan.proofs.weights.key_of.Given as goal

abbrev pub invariant-loop-j : goal.invariant-loop-j
invariant-loop-j l = l.key ≡ key_from (weights_of l.seed 1) l.j
