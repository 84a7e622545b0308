use Rattle.std.proofs.Common.{length}
use Rattle.waldo_run.proofs.groups.+ask_groups.Given as goal

-- one query less each time
abbrev pub decreases-ask_groups : goal.decreases-ask_groups
decreases-ask_groups g l = length l.groups.now
