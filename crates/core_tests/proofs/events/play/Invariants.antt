use Rattle.std.proofs.Common.{◌≡◌}
use Rattle.core_tests.proofs.events.play.Given as goal

abbrev pub invariant-loop-event : goal.invariant-loop-event
invariant-loop-event g l = l.machine.widths ≡ l.widths
