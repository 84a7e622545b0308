use Rattle.bucket_groups.proofs.Open.{group_pairs_open}
use Rattle.bucket_groups.proofs.laws.group_pairs_open.Goals as goal

pub returns : goal.returns
returns c = group_pairs_open
