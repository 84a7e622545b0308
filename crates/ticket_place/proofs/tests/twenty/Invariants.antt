use Rattle.std.proofs.Common.{◌≡◌}
use Rattle.ticket_place.proofs.tests.twenty.Given as goal

abbrev pub invariant-loop : goal.invariant-loop
invariant-loop l = l.sight.book ≡ l.book
