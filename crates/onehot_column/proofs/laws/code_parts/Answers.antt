use Rattle.onehot_column.proofs.CodeLaws.{code_parts}
use Rattle.onehot_column.proofs.laws.code_parts.Goals as goal

pub returns : goal.returns
returns c = code_parts
