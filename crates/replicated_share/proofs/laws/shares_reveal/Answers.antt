use Rattle.replicated_share.proofs.Sharing.{shares_reveal}
use Rattle.replicated_share.proofs.laws.shares_reveal.Goals as goal

pub returns : goal.returns
returns c = shares_reveal
