use Rattle.agreed_rows.proofs.Shares.{server_grows}
use Rattle.waldo_table.proofs.vault.Vault.meet.Goals as goal

pub invariant_of-self : goal.invariant_of-self
invariant_of-self c = server_grows _ _ _ _ _ _ c.meet.ensures.grown.0 c.self.invariant
