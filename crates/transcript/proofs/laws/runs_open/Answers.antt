use Rattle.transcript.proofs.Honest.{runs_open}
use Rattle.transcript.proofs.laws.runs_open.Goals as goal

pub returns : goal.returns
returns c = runs_open
