use Rattle.waldo_core.proofs.Stays.{legal_stays}
use Rattle.waldo_core.proofs.laws.legal_stays.Goals as goal

pub returns : goal.returns
returns c = legal_stays
