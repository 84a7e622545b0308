use Rattle.std.proofs.Common.{◌<◌, sym, subst}
use Rattle.agreed_rows.specs.Servers.{IsShareAt}
use Rattle.waldo_table.specs.Vaults.{Behind}
use Rattle.waldo_table.proofs.Legal.{placed_journal, placed_vault}
use Rattle.waldo_table.proofs.vault.Vault.place.Goals as goal

pub returns-clause-legal : goal.returns-clause-legal
returns-clause-legal c =
    placed_journal _ _ _ _ _ c.place.ensures.placed c.place.ensures.legal c.self.invariant
    (subst (λ (v : Behind). c.args.place < v.log.capacity) (sym c.self.view_is) c.requires.room)
    (subst (λ (v : Behind). IsShareAt v.log.widths v.log.server v.order c.args.place c.args.piece) (sym c.self.view_is) c.requires.share)

pub invariant_of-self : goal.invariant_of-self
invariant_of-self c =
    placed_vault _ _ _ _ _ c.place.ensures.placed c.self.invariant (subst (λ (v : Behind). c.args.place < v.log.capacity) (sym c.self.view_is) c.requires.room)
    (subst (λ (v : Behind). IsShareAt v.log.widths v.log.server v.order c.args.place c.args.piece) (sym c.self.view_is) c.requires.share)
