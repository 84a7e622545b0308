use Rattle.bucket_groups.proofs.Open.{buckets_see_columns}
use Rattle.bucket_groups.proofs.laws.buckets_see_columns.Goals as goal

pub returns : goal.returns
returns c = buckets_see_columns
