use Rattle.transcript.proofs.Honest.{products_shared}
use Rattle.transcript.proofs.laws.products_shared.Goals as goal

pub returns : goal.returns
returns c = products_shared
