use Rattle.transcript.proofs.Agree.{columns_suffice}
use Rattle.transcript.proofs.laws.columns_suffice.Goals as goal

pub returns : goal.returns
returns c = columns_suffice
