use Rattle.transcript.proofs.Held.{pieces_hold}
use Rattle.transcript.proofs.laws.pieces_hold.Goals as goal

pub returns : goal.returns
returns c = pieces_hold
