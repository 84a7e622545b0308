use Rattle.transcript.proofs.Lengths.{lengths_are_sizes}
use Rattle.transcript.proofs.laws.lengths_are_sizes.Goals as goal

pub returns : goal.returns
returns c = lengths_are_sizes
