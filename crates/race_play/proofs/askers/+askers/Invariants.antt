use Rattle.std.proofs.Common.{◌+◌, ◌*◌, length}
use Rattle.race_play.proofs.askers.+askers.Given as goal

abbrev pub decreases-ask_beside : goal.decreases-ask_beside
decreases-ask_beside g l = 4 * length l.rest.now + 2

abbrev pub decreases-ask_beside-others : goal.decreases-ask_beside-others
decreases-ask_beside-others g l = 4 * length l.rest.now + 1

abbrev pub decreases-race_askers : goal.decreases-race_askers
decreases-race_askers g l = 4 * length l.wires.now
