use Rattle.prefix_log.proofs.Marked.{no_mark_no_start}
use Rattle.prefix_log.proofs.laws.no_mark_no_start.Goals as goal

pub returns : goal.returns
returns c = no_mark_no_start
