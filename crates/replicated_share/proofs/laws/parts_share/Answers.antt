use Rattle.replicated_share.proofs.Sharing.{parts_share}
use Rattle.replicated_share.proofs.laws.parts_share.Goals as goal

pub returns : goal.returns
returns c = parts_share
