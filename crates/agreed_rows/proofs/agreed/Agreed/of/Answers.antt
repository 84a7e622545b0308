use Rattle.std.proofs.Common.{ap}
use Rattle.ticket_place.specs.Sights.{Seen}
use Rattle.agreed_rows.proofs.Shares.{agreed_as}
use Rattle.agreed_rows.proofs.agreed.Agreed.of.Goals as goal

pub invariant_of-result : goal.invariant_of-result
invariant_of-result c = agreed_as _ _ _ _ _ _ _ _ _ (ap (λ (s : Seen). s.order) c.of.ensures) c.requires.few c.requires.zero c.requires.one c.requires.two c.of-2.ensures
