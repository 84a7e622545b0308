use Rattle.std.proofs.Common.{◌+◌, ◌-◌, ◌*◌, length}
use Rattle.scan_chunks.proofs.many.+halves.Given as goal

abbrev pub decreases-scan_halves : goal.decreases-scan_halves
decreases-scan_halves g l = 4 * length l.shelves.now

abbrev pub decreases-scan_both : goal.decreases-scan_both
decreases-scan_both g l = 4 * (length l.front.now + length l.back.now) - 1

abbrev pub decreases-scan_both-first : goal.decreases-scan_both-first
decreases-scan_both-first g l = 4 * length l.front.now + 1

abbrev pub decreases-scan_both-second : goal.decreases-scan_both-second
decreases-scan_both-second g l = 4 * length l.back.now + 1
