use Rattle.visit_trace.proofs.Counted.{counts_follow as counted}
use Rattle.visit_trace.proofs.laws.counts_follow.Goals as goal

pub returns : goal.returns
returns c = counted
