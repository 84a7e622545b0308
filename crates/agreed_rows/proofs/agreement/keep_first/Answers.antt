use Rattle.std.proofs.Common.{refl}
use Rattle.agreed_rows.proofs.Shares.{first_cut}
use Rattle.agreed_rows.proofs.agreement.keep_first.Goals as goal

pub returns : goal.returns
returns c = first_cut _ _ _ c.args.rows _ _ c.start-start.ensures.value refl c.cut.ensures.cut
