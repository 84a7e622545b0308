use Rattle.prefix_log.proofs.Keeping.{snapshots_keep_rows}
use Rattle.prefix_log.proofs.laws.snapshots_keep_rows.Goals as goal

pub returns : goal.returns
returns c = snapshots_keep_rows
