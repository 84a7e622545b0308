use Rattle.std.proofs.Common.{◌≡◌}
use Rattle.query_plan.specs.Reading.{query_of}
use Rattle.query_plan.proofs.group.query_before.Goals as goal

pub returns-in-Some-clause-exact : goal.returns-in-Some-clause-exact
unfolding query_of
returns-in-Some-clause-exact c = rw c.in-Some.is c.read_bytes.ensures.exact
