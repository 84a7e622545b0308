use Rattle.transcript.proofs.Small.{plain_is_small}
use Rattle.transcript.proofs.laws.plain_is_small.Goals as goal

pub returns : goal.returns
returns c = plain_is_small
