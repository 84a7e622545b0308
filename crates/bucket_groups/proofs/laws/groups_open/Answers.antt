use Rattle.bucket_groups.proofs.Open.{groups_open}
use Rattle.bucket_groups.proofs.laws.groups_open.Goals as goal

pub returns : goal.returns
returns c = groups_open
