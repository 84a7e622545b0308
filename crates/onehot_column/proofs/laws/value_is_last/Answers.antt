use Rattle.onehot_column.proofs.CodeLaws.{value_is_last}
use Rattle.onehot_column.proofs.laws.value_is_last.Goals as goal

pub returns : goal.returns
returns c = value_is_last
