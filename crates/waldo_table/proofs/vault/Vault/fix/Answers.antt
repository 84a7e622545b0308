use Rattle.std.proofs.Common.{◌∙◌, ap, arith}
use Rattle.prefix_log.specs.Journal.{prefix}
use Rattle.agreed_rows.proofs.Shares.{fix_of}
use Rattle.waldo_table.specs.Vaults.{Behind}
use Rattle.waldo_table.proofs.Legal.{fixed_as}
use Rattle.waldo_table.proofs.vault.Vault.fix.Goals as goal

pub returns-clause-fixed : goal.returns-clause-fixed
returns-clause-fixed c =
    let e = c.in-Ok.ensures in
    let fix = fix_of _ _ _ e.legal c.self.invariant.places e.start e.rows e.pieces in
    let rows = fix.rows ∙ ap (λ (v : Behind). prefix v.log.journal) c.self.view_is in (
      omega (arith, rows, c.prefix-had.ensures.prefix, c.if-had-floor.false),
      rows,
      fixed_as _ _ c.args.self.now _ (ap (λ (v : Behind). v.log) c.self.view_is) (ap (λ (v : Behind). v.order) c.self.view_is) e.legal c.self.invariant fix,
    )
