use Rattle.transcript.proofs.Seeing.{lengths_are_trace}
use Rattle.transcript.proofs.laws.lengths_are_trace.Goals as goal

pub returns : goal.returns
returns c = lengths_are_trace
