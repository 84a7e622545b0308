use Rattle.std.proofs.Common.{[], refl}
use Rattle.wire_line.specs.Carried.{went_none}
use Rattle.server_rounds.proofs.Messages.{match_none}
use Rattle.server_rounds.proofs.bits.Bits.product.Goals as goal

pub returns-in-None-clause-messages : goal.returns-in-None-clause-messages
returns-in-None-clause-messages g c = (
  [],
  went_none g.W.Wire.sight _ _ refl refl (g.met.W.Wire.none_passes _),
  match_none _ _ _ c.in-None.is refl,
  match_none _ _ _ c.in-None.is refl,
)
