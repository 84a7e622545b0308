use Rattle.transcript.proofs.Seeing.{lengths_begin_trace}
use Rattle.transcript.proofs.laws.lengths_begin_trace.Goals as goal

pub returns : goal.returns
returns c = lengths_begin_trace
