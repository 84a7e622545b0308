use Rattle.prefix_log.proofs.Keeping.{cut_keeps_rows}
use Rattle.prefix_log.proofs.laws.cut_keeps_rows.Goals as goal

pub returns : goal.returns
returns c = cut_keeps_rows
