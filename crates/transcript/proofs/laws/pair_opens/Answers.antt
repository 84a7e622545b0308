use Rattle.transcript.proofs.Honest.{pair_opens}
use Rattle.transcript.proofs.laws.pair_opens.Goals as goal

pub returns : goal.returns
returns c = pair_opens
