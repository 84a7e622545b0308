use Rattle.std.proofs.Common.{◌+◌, ◌-◌, ◌*◌}
use Rattle.server_rounds.proofs.zeros.+stretches.Given as goal

abbrev pub decreases-add_stretches : goal.decreases-add_stretches
decreases-add_stretches g l = 4 * l.parts

abbrev pub decreases-add_both : goal.decreases-add_both
decreases-add_both g l = 4 * (l.parts.0 + l.parts.1) - 1

abbrev pub decreases-add_both-first : goal.decreases-add_both-first
decreases-add_both-first g l = 4 * l.front + 1

abbrev pub decreases-add_both-second : goal.decreases-add_both-second
decreases-add_both-second g l = 4 * l.back + 1
