use Rattle.replicated_share.proofs.Sharing.{appended_share}
use Rattle.replicated_share.proofs.laws.appended_share.Goals as goal

pub returns : goal.returns
returns c = appended_share
