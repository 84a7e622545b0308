use Rattle.waldo_core.proofs.Appending.{rows_lead}
use Rattle.waldo_core.proofs.laws.rows_lead.Goals as goal

pub returns : goal.returns
returns c = rows_lead
