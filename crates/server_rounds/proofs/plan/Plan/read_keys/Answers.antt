use Rattle.server_rounds.proofs.Tables.{has_tables}
use Rattle.server_rounds.proofs.plan.Plan.read_keys.Goals as goal

pub returns-in-Ok-clause-tables : goal.returns-in-Ok-clause-tables
returns-in-Ok-clause-tables c =
    rw (← c.self.view_is) (has_tables _ _ _ c.self.invariant c.in-Ok.ensures.keys c.in-Ok.ensures.shape.0)
