use Rattle.replicated_share.proofs.Sharing.{split_shares}
use Rattle.replicated_share.proofs.laws.split_shares.Goals as goal

pub returns : goal.returns
returns c = split_shares
