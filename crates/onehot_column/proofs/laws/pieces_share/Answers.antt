use Rattle.onehot_column.proofs.CodeLaws.{pieces_share}
use Rattle.onehot_column.proofs.laws.pieces_share.Goals as goal

pub returns : goal.returns
returns c = pieces_share
