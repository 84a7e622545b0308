use Rattle.transcript.proofs.Shifted.{shifted_open}
use Rattle.transcript.proofs.laws.shifted_open.Goals as goal

pub returns : goal.returns
returns c = shifted_open
