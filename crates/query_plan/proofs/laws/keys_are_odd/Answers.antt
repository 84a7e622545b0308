use Rattle.query_plan.proofs.OddKeys.{keys_are_odd}
use Rattle.query_plan.proofs.laws.keys_are_odd.Goals as goal

pub returns : goal.returns
returns c = keys_are_odd
