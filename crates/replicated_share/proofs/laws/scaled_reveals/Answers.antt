use Rattle.replicated_share.proofs.Sharing.{scaled_reveals}
use Rattle.replicated_share.proofs.laws.scaled_reveals.Goals as goal

pub returns : goal.returns
returns c = scaled_reveals
