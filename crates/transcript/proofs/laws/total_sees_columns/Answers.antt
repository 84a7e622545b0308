use Rattle.transcript.proofs.Agree.{total_sees_columns}
use Rattle.transcript.proofs.laws.total_sees_columns.Goals as goal

pub returns : goal.returns
returns c = total_sees_columns
