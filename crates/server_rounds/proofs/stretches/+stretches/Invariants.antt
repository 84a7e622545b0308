use Rattle.std.proofs.Common.{◌+◌, ◌-◌, ◌*◌, length}
use Rattle.server_rounds.proofs.stretches.+stretches.Given as goal

abbrev pub decreases-fill_stretches : goal.decreases-fill_stretches
decreases-fill_stretches g l = 4 * length l.zero.now

abbrev pub decreases-fill_both : goal.decreases-fill_both
decreases-fill_both g l = 4 * (length l.zero.now + length l.zero_rest.now) - 1

abbrev pub decreases-fill_both-first : goal.decreases-fill_both-first
decreases-fill_both-first g l = 4 * length l.zero.now + 1

abbrev pub decreases-fill_both-second : goal.decreases-fill_both-second
decreases-fill_both-second g l = 4 * length l.zero_rest.now + 1
